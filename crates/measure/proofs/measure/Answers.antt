use mathlib.Core.Path.{◌≡◌, refl, sym, ◌∙◌, ap}
use Prim.Native.Nat.{◌/◌}
use native.Mathlib.Nat.{sub-zero}
use native.Mathlib.Omega.{arith}
use lib.ListN.{length}
use Rattle.laws.specs.AnswerAt.{accepted}
use Rattle.recipes.specs.Pairs.{pairs_of}
use Rattle.steps.specs.Faults.{terms, Fault, unless_fault}
use Rattle.steps.specs.Steps.{steps_from, steps_of}
use Rattle.steps.proofs.Filling.{known_start, known-after, fault-here, fault-later, fault-none}
use Rattle.steps.proofs.Kept.{kept_of}
use Rattle.recipes.proofs.Stepping.{count-snoc}
use Rattle.measure.proofs.measure.Goals as goal

pub loop-i-init : goal.loop-i-init
unfolding steps_from pairs_of
loop-i-init c = record {
  few = omega arith;
  later = rw sub-zero refl;
  counted = refl;
  known = known_start (terms c.args.terms.filled);
}

pub returns-in-Err : goal.returns-in-Err
returns-in-Err c =
    let a = c.args in
    let loop = c.loop-i in
    let v = rw c.step_at.ensures at (c.in-Err.ensures.fault loop.i) in
    let e = fault-here (terms a.terms.filled) a.sheet.now (length a.sheet.now / 24) loop.i loop.filled loop.invariant.known c.loop-i-test.true _ (sym v) in
    ap (λ (x : Fault). unless_fault x (accepted (length (pairs_of (steps_of a.sheet.now))))) (sym (loop.invariant.later ∙ e))

pub loop-i-preserved : goal.loop-i-preserved
loop-i-preserved c =
    let a = c.args in
    let t = terms a.terms.filled in
    let loop = c.loop-i in
    let s = c.in-Ok.s in
    let same = c.in-Ok.ensures.same ∙ c.step_at.ensures in
    let quiet = sym (c.in-Ok.ensures.fault loop.i) in
    let e = fault-later t a.sheet.now (length a.sheet.now / 24) loop.i loop.filled loop.invariant.known c.loop-i-test.true (rw c.step_at.ensures at quiet) in
    let p = rw same at c.of_step-pairs.ensures in
    let k = (kept_of s.step s.kept).target in
    record {
      few = omega (arith, p.1, loop.invariant.few);
      later = loop.invariant.later ∙ e;
      counted = omega (arith, count-snoc a.sheet.now loop.i, p.0, loop.invariant.counted);
      known = known-after t a.sheet.now (length a.sheet.now / 24) loop.i loop.filled loop.invariant.known _ (rw same at k) (rw same at c.with_row-filled.ensures);
    }

pub returns : goal.returns
returns c =
    let a = c.args in
    let loop = c.loop-i in
    let e = fault-none (terms a.terms.filled) a.sheet.now (length a.sheet.now / 24) loop.i loop.filled loop.invariant.known c.loop-i-test.false in
    let all : loop.i ≡ length a.sheet.now / 24 = omega arith in
    let count : loop.pairs ≡ length (pairs_of (steps_of a.sheet.now)) = rw all at loop.invariant.counted in
    ap accepted count ∙ ap (λ (x : Fault). unless_fault x (accepted (length (pairs_of (steps_of a.sheet.now))))) (sym (loop.invariant.later ∙ e))
