use mathlib.Core.Path.{refl}
use native.Mathlib.Omega.{arith}
use borrow.Author.Tests.{lt-ltb, le-ltb, eq-eqb, ne_eqb}
use Rattle.one_pair.proofs.Guess.{covers-word}
use Rattle.one_pair.proofs.word_place.Goals as goal

pub returns-then-w-eq16776960 : goal.returns-then-w-eq16776960
returns-then-w-eq16776960 c =
    covers-word _ _ c.requires.0 c.requires.1
    (rw (lt-ltb _ 0x100_0000 c.if-w-lt16777216.true, eq-eqb _ 0xff_ff00 c.if-w-eq16776960.true) refl)

pub returns-then-w-lt16777216 : goal.returns-then-w-lt16777216
returns-then-w-lt16777216 c =
    covers-word _ _ c.requires.0 c.requires.1
    (rw (c.word_offset.ensures.0, lt-ltb _ 0x100_0000 c.if-w-lt16777216.true, ne_eqb _ 0xff_ff00 c.if-w-eq16776960.false) refl)

pub returns-then-w-eq0 : goal.returns-then-w-eq0
returns-then-w-eq0 c =
    covers-word _ _ c.requires.0 c.requires.1
    (rw (c.word_offset-then-w-eq0.ensures.0, le-ltb _ 0x100_0000 c.if-w-lt16777216.false, eq-eqb _ 0 c.if-w-eq0.true) refl)

pub returns-then-w-lt4278190080 : goal.returns-then-w-lt4278190080
returns-then-w-lt4278190080 c =
    covers-word _ _ c.requires.0 c.requires.1
    (rw (
      le-ltb _ 0x100_0000 c.if-w-lt16777216.false,
      ne_eqb _ 0 c.if-w-eq0.false,
      eq-eqb _ 0 c.if-w-eq0-2.true,
      lt-ltb _ 0xff00_0000 c.if-w-lt4278190080.true,
    )
    (omega arith))

pub overflow_add-result-then-w-eq0-2 : goal.overflow_add-result-then-w-eq0-2
overflow_add-result-then-w-eq0-2 c = omega (arith, c.word_offset-then-w-eq0-2.ensures.1)

pub returns-then-w-eq0-2 : goal.returns-then-w-eq0-2
returns-then-w-eq0-2 c =
    covers-word _ _ c.requires.0 c.requires.1
    (rw (
      le-ltb _ 0x100_0000 c.if-w-lt16777216.false,
      ne_eqb _ 0 c.if-w-eq0.false,
      eq-eqb _ 0 c.if-w-eq0-2.true,
      le-ltb _ 0xff00_0000 c.if-w-lt4278190080.false,
      c.word_offset-then-w-eq0-2.ensures.0,
    )
    refl)

pub returns-then-w-eq4278190335 : goal.returns-then-w-eq4278190335
returns-then-w-eq4278190335 c =
    covers-word _ _ c.requires.0 c.requires.1
    (rw (
      le-ltb _ 0x100_0000 c.if-w-lt16777216.false,
      ne_eqb _ 0 c.if-w-eq0.false,
      ne_eqb _ 0 c.if-w-eq0-2.false,
      eq-eqb _ 0xff00_00ff c.if-w-eq4278190335.true,
    )
    refl)

pub overflow_add-result-2 : goal.overflow_add-result-2
overflow_add-result-2 c = omega (arith, c.word_offset-2.ensures.1)

pub returns : goal.returns
returns c =
    covers-word _ _ c.requires.0 c.requires.1
    (rw (
      le-ltb _ 0x100_0000 c.if-w-lt16777216.false,
      ne_eqb _ 0 c.if-w-eq0.false,
      ne_eqb _ 0 c.if-w-eq0-2.false,
      ne_eqb _ 0xff00_00ff c.if-w-eq4278190335.false,
      c.word_offset-2.ensures.0,
    )
    refl)
