use mathlib.Core.Path.{◌≡◌}
use Prim.Native.Nat.{◌/◌}
use native.Mathlib.Omega.{arith}
use lib.ListN.{length}
use Rattle.text.proofs.Writes.{widen}
use Rattle.recipes.specs.Pairs.{pairs_of}
use Rattle.steps.specs.Steps.{steps_from}
use Rattle.steps.proofs.Stepping.{each_keeps}
use Rattle.emit.proofs.Puts.{put-none, put_then}
use Rattle.recipes.proofs.Stepping.{pairs-snoc}
use Rattle.emit.proofs.put_sheet.Goals as goal

pub loop-i-init : goal.loop-i-init
unfolding steps_from pairs_of
loop-i-init c = put-none _

pub invariant_of-put_step : goal.invariant_of-put_step
invariant_of-put_step c = record { kept = rw c.step_at-step.ensures (each_keeps c.args.sheet.now _ c.requires.1.1 c.loop-i.i c.loop-i-test.true) }

pub loop-i-preserved : goal.loop-i-preserved
loop-i-preserved c =
    let p = rw c.step_at-step.ensures at c.put_step.ensures in
    rw (pairs-snoc c.args.sheet.now c.loop-i.i) (widen (omega arith) (put_then _ _ c.loop-i.invariant p))

pub returns : goal.returns
returns c =
    let e : c.loop-i.i ≡ length c.args.sheet.now / 24 = omega arith in
    rw e at c.loop-i.invariant
