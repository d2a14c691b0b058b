use Rattle.std.proofs.Common.{◌≡◌, ◌-◌, ◌≤◌}
use Rattle.machine.specs.State.{state}
use Rattle.runs.specs.Run.{after, run_pairs}
use Rattle.runs.proofs.go.Given as goal

-- what is left of the run, after the pairs executed so far, is the whole run
abbrev pub invariant-loop-pair : goal.invariant-loop-pair
invariant-loop-pair l =
    record {
      pairs : l.pair-iterator.size ≡ 2;
      within : l.left ≤ l.budget;
      whole : after (l.budget - l.left) (run_pairs l.pair-iterator.rest.now l.left (state l.state.file l.state.mark)) ≡ run_pairs l.fn.code l.budget (state l.fn.start.file l.fn.start.mark);
    }
