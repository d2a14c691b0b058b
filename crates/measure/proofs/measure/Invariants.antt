use mathlib.Core.Path.{◌≡◌}
use Prim.Native.Nat.{◌-◌, ◌*◌, ◌/◌, ◌≤◌}
use lib.ListN.{length}
use Rattle.recipes.specs.Pairs.{pairs_of}
use Rattle.steps.specs.Faults.{terms, fault_after, first_fault}
use Rattle.steps.specs.Steps.{steps_from, steps_of}
use Rattle.steps.proofs.Filling.{Known}
use Rattle.steps.proofs.Stepping.{before}
use Rattle.measure.proofs.measure.Given as goal

abbrev pub invariant-loop-i : goal.invariant-loop-i
invariant-loop-i l = record {
  few : l.pairs ≤ 20 * l.i;
  later : first_fault (terms l.initial.filled) (steps_of l.sheet) ≡ fault_after (terms l.initial.filled) (before l.sheet l.i) (steps_from l.sheet l.i (length l.sheet / 24 - l.i));
  counted : l.pairs ≡ length (pairs_of (steps_from l.sheet 0 l.i));
  known : Known (terms l.initial.filled) (before l.sheet l.i) l.filled;
}
