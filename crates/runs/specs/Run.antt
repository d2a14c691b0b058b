-- A run of pairs, over any state and any step, and the machine's: document 01, 'Register machine'.
-- Assumes nothing.
use Rattle.std.specs.Prelude.{Bool, true, not, List, [], ◌∷◌, ℕ, zero, suc, ◌+◌, ◌*◌, ◌/◌, ◌%◌, eqb, ltb, length, drop}
use Rattle.laws.specs.Answer.{Answer, accepted, refused, and_then}
use Rattle.laws.specs.Choice.{choose}
use Rattle.machine.specs.State.{State}
use Rattle.machine.specs.Step.{step_pair}

-- how a run ends: done, or stopped by the refusal of this number
pub data Ending : Type 0 where
  done : Ending
  stopped : ℕ → Ending

-- whether a later call goes on from there: it was done, or its budget was used up
abbrev pub may_go_on : Ending → Bool
may_go_on done = true
may_go_on (stopped n) = eqb n 15

-- how it ends, the pairs executed, and the state that it leaves
pub record RunOn (S : Type 0) : Type 0 where
  pub ending : Ending
  pub executed : ℕ
  pub state : S

-- it ends before the next pair
abbrev pub at_once : {S : Type 0} → Ending → S → RunOn S
at_once e s = record { ending = e; executed = 0; state = s }

-- it ends after k pairs and this run
abbrev pub after : {S : Type 0} → ℕ → RunOn S → RunOn S
after k r = record { ending = r.ending; executed = k + r.executed; state = r.state }

-- a pair that is refused stops the run and leaves the state; else the rest runs on what the pair left
abbrev pub onward : {S : Type 0} → Answer S → S → (S → RunOn S) → RunOn S
onward (accepted next) s rest = after 1 (rest next)
onward (refused n) s rest = at_once (stopped n) s

-- The run of the pairs hw1, hw2 in turn, the code's length being even, by any step. With pairs left and no budget it is 15, before reading.
unfoldable pub run_by : {S : Type 0} → (ℕ → ℕ → S → Answer S) → List ℕ → ℕ → S → RunOn S
run_by step [] budget s = at_once done s
run_by step (hw1 ∷ []) budget s = at_once done s
run_by step (hw1 ∷ hw2 ∷ code) zero s = at_once (stopped 15) s
run_by step (hw1 ∷ hw2 ∷ code) (suc budget) s = onward (step hw1 hw2 s) s (λ next. run_by step code budget next)

-- n steps, one pair after another: the state after them, where all n have one; no pair left is 11
unfoldable pub steps_by : {S : Type 0} → (ℕ → ℕ → S → Answer S) → ℕ → List ℕ → S → Answer S
steps_by step zero code s = accepted s
steps_by step (suc n) [] s = refused 11
steps_by step (suc n) (hw1 ∷ []) s = refused 11
steps_by step (suc n) (hw1 ∷ hw2 ∷ code) s = and_then (step hw1 hw2 s) (λ next. steps_by step n code next)

-- the machine's
abbrev pub Run : Type 0
Run = RunOn State

abbrev pub run_pairs : List ℕ → ℕ → State → Run
run_pairs code budget s = run_by step_pair code budget s

abbrev pub machine_steps : ℕ → List ℕ → State → Answer State
machine_steps n code s = steps_by step_pair n code s

-- The run from a start counted in pairs: 11 for an odd halfword count, a file not of 32, or a start past the end.
unfoldable pub run_of : List ℕ → ℕ → State → ℕ → Run
run_of code start s budget =
    choose (not (eqb (length code % 2) 0)) (at_once (stopped 11) s)
    (choose (not (eqb (length s.file) 32)) (at_once (stopped 11) s)
    (choose (ltb (length code / 2) start) (at_once (stopped 11) s)
    (run_pairs (drop (2 * start) code) budget s)))
