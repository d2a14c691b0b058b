use mathlib.Core.Bool.{false}
use native.Mathlib.Omega.{arith}
use borrow.Author.Tests.{eq-eqb, ne_eqb, lt-ltb, le-ltb}
use Rattle.homes.proofs.Cells.{modimm-stands}
use Rattle.immediate_values.proofs.Immediates.{only-candidate}
use Rattle.immediate_values.proofs.FirstCell.candidate.Goals as goal

pub returns-then-self-lt16 : goal.returns-then-self-lt16
returns-then-self-lt16 c =
    only-candidate _ _ c.args.p _ c.args.self.home c.ranges.p.fits
    (rw (eq-eqb _ 14 c.if-self-eq14.true, lt-ltb _ 16 c.if-self-lt16.true))

pub returns-then-self-eq14 : goal.returns-then-self-eq14
returns-then-self-eq14 c =
    only-candidate _ _ c.args.p _ c.args.self.home c.ranges.p.fits
    (rw (eq-eqb _ 14 c.if-self-eq14.true, le-ltb _ 16 c.if-self-lt16.false, c.byte_bits.ensures.0))

pub overflow_add-result-then-self-lt8 : goal.overflow_add-result-then-self-lt8
overflow_add-result-then-self-lt8 c =
    omega (arith, c.word_offset.ensures.1, (modimm-stands false _ _ c.args.self.home).within)

pub returns-then-self-lt8 : goal.returns-then-self-lt8
returns-then-self-lt8 c =
    only-candidate _ _ c.args.p _ c.args.self.home c.ranges.p.fits
    (rw (ne_eqb _ 14 c.if-self-eq14.false, lt-ltb _ 8 c.if-self-lt8.true, c.word_offset.ensures.0))

pub overflow_add-result-2 : goal.overflow_add-result-2
overflow_add-result-2 c =
    omega (arith, c.halfword_offset.ensures.1, (modimm-stands false _ _ c.args.self.home).within)

pub returns : goal.returns
returns c =
    only-candidate _ _ c.args.p _ c.args.self.home c.ranges.p.fits
    (rw (ne_eqb _ 14 c.if-self-eq14.false, le-ltb _ 8 c.if-self-lt8.false, c.halfword_offset.ensures.0))
