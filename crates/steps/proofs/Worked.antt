-- The worked faults of specs/Promises.antt, computed.
-- Assumes nothing.
use mathlib.Core.Path.{refl}
use Rattle.steps.specs.Faults.{step_fault, fault_after}
use Rattle.steps.specs.Promises.{WorkedFaults}
use Rattle.steps.specs.Reads.{reads_by}
use Rattle.steps.specs.Rules.{table, keeps_rows, keeps_numbers, keeps}
use Rattle.steps.specs.Sets.{in_set}

pub worked_faults : WorkedFaults
unfolding fault_after step_fault keeps keeps_rows keeps_numbers reads_by table in_set
worked_faults =
    record {
      both-filled = refl;
      b-not-filled = refl;
      own-target = refl;
      own-target-filled = refl;
      set-later = refl;
      high-marks = refl;
      rule-first = refl;
      sixteen-then-thirteen = refl;
      thirteen-then-sixteen = refl;
      no_steps = refl;
      unused-reads-nothing = refl;
      set-long-before = refl;
      c-not-filled = refl;
      c-filled = refl;
    }
