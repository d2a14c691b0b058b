-- Promises beyond the contract; proofs/Promises.antt proves each under its name.
-- Assumes nothing.
use Rattle.std.specs.Prelude.{true, false, List, ◌≡◌, ℕ, ◌+◌, ◌*◌, ◌<◌, length, get_or, drop}
use Rattle.laws.specs.Answer.{accepted}
use Rattle.machine.specs.State.{State}
use Rattle.machine.specs.Promises.{PairMoves}
use Rattle.runs.specs.declared.Ran.{Ran}
use Rattle.runs.specs.Answers.{ran_of}
use Rattle.runs.specs.Run.{may_go_on, after, run_of, machine_steps}

-- an answer says which case it is
abbrev pub RunsApart : Type 0
RunsApart = (x y : Ran) (s t : State) → ran_of x s ≡ ran_of y t → (x ≡ y) × (s ≡ t)

-- however a run ends, it leaves the file and the mark of the machine steps that it counts
abbrev pub RunKept : Type 0
RunKept =
    (code : List ℕ) (start budget : ℕ) (s : State)
    → let r = run_of code start s budget in machine_steps r.executed (drop (2 * start) code) s ≡ accepted r.state

-- one of the first n pairs moves a lane to an end of its range, in the file that the pairs before it leave
pub record SomeMoves (n : ℕ) (code : List ℕ) (s : State) : Type 0 where
  pub at : ℕ
  pub among : at < n
  pub reached : State
  pub steps : machine_steps at code s ≡ accepted reached
  pub moves : PairMoves (get_or code (2 * at) 0) (get_or code (2 * at + 1) 0) reached.file

-- a mark that comes as no is yes after a run exactly when one of the pairs executed moves a lane; one that is yes stays
abbrev pub RunMarked : Type 0
RunMarked =
    (code : List ℕ) (start budget : ℕ) (s : State)
    → let r = run_of code start s budget in
    let Moved = SomeMoves r.executed (drop (2 * start) code) s in
    (s.mark ≡ false → (r.state.mark ≡ true → Moved) × (Moved → r.state.mark ≡ true)) × (s.mark ≡ true → r.state.mark ≡ true)

-- How a run goes does not depend on what the registers hold: of any halfwords, from any start, with any budget, two files of
-- one length, with any marks, give the same ending after the same number of pairs.
abbrev pub SameControl : Type 0
SameControl =
    (code : List ℕ) (start budget : ℕ) (s t : State) → length s.file ≡ length t.file
    → let r = run_of code start s budget in
    let q = run_of code start t budget in
    (r.ending ≡ q.ending) × (r.executed ≡ q.executed)

-- Where a run was done, or its budget used up, a later call from the pair after its last, with its file and mark, goes on:
-- the two end as one run with both budgets added does, with its file and mark, and their counts add up to its.
abbrev pub GoesOn : Type 0
GoesOn =
    (code : List ℕ) (start b c : ℕ) (s : State)
    → let r = run_of code start s b in may_go_on r.ending ≡ true
    → run_of code start s (b + c) ≡ after r.executed (run_of code (start + r.executed) r.state c)
