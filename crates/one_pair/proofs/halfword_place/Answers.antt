use mathlib.Core.Path.{refl}
use native.Mathlib.Omega.{arith}
use borrow.Author.Tests.{lt-ltb, le-ltb, eq-eqb, ne_eqb}
use Rattle.one_pair.proofs.Guess.{covers-halfword}
use Rattle.one_pair.proofs.halfword_place.Goals as goal

pub returns-then-h-eq0 : goal.returns-then-h-eq0
returns-then-h-eq0 c =
    covers-halfword _ _ c.requires
    (rw (eq-eqb _ _ c.if-h.true, eq-eqb _ 0 c.if-h-eq0.true) refl)

pub returns-then-h : goal.returns-then-h
returns-then-h c =
    covers-halfword _ _ c.requires
    (rw (eq-eqb _ _ c.if-h.true, ne_eqb _ 0 c.if-h-eq0.false) refl)

pub returns-then-h-lt256 : goal.returns-then-h-lt256
returns-then-h-lt256 c =
    covers-halfword _ _ c.requires
    (rw (ne_eqb _ _ c.if-h.false, lt-ltb _ 0x100 c.if-h-lt256.true) refl)

pub returns-then-h-eq0-2 : goal.returns-then-h-eq0-2
returns-then-h-eq0-2 c =
    covers-halfword _ _ c.requires
    (rw (ne_eqb _ _ c.if-h.false, le-ltb _ 0x100 c.if-h-lt256.false, eq-eqb _ 0 c.if-h-eq0-2.true) refl)

pub overflow_add-result-3 : goal.overflow_add-result-3
overflow_add-result-3 c = omega (arith, c.halfword_offset.ensures.1)

pub returns : goal.returns
returns c =
    covers-halfword _ _ c.requires
    (rw (
      ne_eqb _ _ c.if-h.false,
      le-ltb _ 0x100 c.if-h-lt256.false,
      ne_eqb _ 0 c.if-h-eq0-2.false,
      c.halfword_offset.ensures.0,
    )
    refl)
