use native.Mathlib.Omega.{arith}
use borrow.Author.Tests.{eq-eqb, ne_eqb}
use Rattle.immediates.specs.Modified.{pattern_in}
use Rattle.immediates.proofs.Expansions.{no-cmode, row-pattern, byte-element, halfword-element}
use Rattle.immediates.proofs.expand_plain.Goals as goal

pub returns-then-cmode-gt15 : goal.returns-then-cmode-gt15
unfolding pattern_in
returns-then-cmode-gt15 c = rw (no-cmode _ c.if-cmode-gt15.true)

pub overflow_mul-result : goal.overflow_mul-result
overflow_mul-result c =
    omega (arith, c.element_of-e.ensures.0, byte-element c.args.cmode c.args.imm8 c.ranges.imm8.fits c.if-cmode-eq14.true)

pub returns-then-cmode-eq14 : goal.returns-then-cmode-eq14
returns-then-cmode-eq14 c =
    row-pattern c.args.cmode c.args.imm8 _ (omega arith) c.ranges.imm8.fits
    (rw (c.element_of-e.ensures.0, eq-eqb _ _ c.if-cmode-eq14.true))

pub overflow_mul-result-then-cmode-eq2 : goal.overflow_mul-result-then-cmode-eq2
overflow_mul-result-then-cmode-eq2 c =
    omega (arith, c.element_of-e.ensures.0, halfword-element c.args.cmode c.args.imm8 c.ranges.imm8.fits c.if-cmode-eq2.true)

pub returns-then-cmode-eq2 : goal.returns-then-cmode-eq2
returns-then-cmode-eq2 c =
    row-pattern c.args.cmode c.args.imm8 _ (omega arith) c.ranges.imm8.fits
    (rw (c.element_of-e.ensures.0, ne_eqb _ _ c.if-cmode-eq14.false, eq-eqb _ _ c.if-cmode-eq2.true))

pub returns : goal.returns
returns c =
    row-pattern c.args.cmode c.args.imm8 _ (omega arith) c.ranges.imm8.fits
    (rw (c.element_of-e.ensures.0, ne_eqb _ _ c.if-cmode-eq14.false, ne_eqb _ _ c.if-cmode-eq2.false))
