-- Demand 3, of a whole sheet and its run.
-- Assumes nothing.
use Rattle.std.specs.Prelude.{List, [], ◌∷◌, ◌++◌, ◌≢◌, ◌≡◌, ℕ, ◌*◌, ◌≤◌, length, take, drop}
use Rattle.laws.specs.Answer as stepping
use Rattle.laws.specs.AnswerAt.{AnswerAt, accepted}
use Rattle.machine.specs.State.{State}
use Rattle.runs.specs.Run.{Run, done, machine_steps}
use Rattle.steps.specs.declared.Step.{Step}
use Rattle.steps.specs.declared.Terms.{Terms}
use Rattle.steps.specs.Meaning.{rows_of, meaning}
use Rattle.recipes.specs.Pairs.{pairs_by, halfwords_of}
use Rattle.steps.specs.Steps.{steps_of}
use Rattle.translator.specs.Translation.{records_of, Translates}

-- at most 20 pairs for any one step
abbrev pub EachShort : List Step → Type 0
EachShort [] = Unit {0}
EachShort (s ∷ rest) = (length (pairs_by s.kind s) ≤ 20) × EachShort rest

-- done after exactly n pairs, with this state
abbrev pub done_after : ℕ → State → AnswerAt Run
done_after n s = accepted (record { ending = done; executed = n; state = s })

-- From the list of filled rows, the bytes, the output, the state and the budget that come in, to the output, the state and
-- the answer that come out.
pub record Demand3 (t : Terms) (bytes out : List ℕ) (s : State) (budget : ℕ) (out' : List ℕ) (s' : State) (answer : AnswerAt Run) : Type 0 where
  -- translated: the pairs, two halfwords each and at most 20 a step, stand at the front of the output, and the rest is as it was
  pub written : (n : ℕ) → Translates t bytes (length out) n → out' ≡ halfwords_of (records_of bytes) ++ drop (2 * n) out
  pub size : (n : ℕ) → Translates t bytes (length out) n → length (halfwords_of (records_of bytes)) ≡ 2 * n
  pub short : (n : ℕ) → Translates t bytes (length out) n → EachShort (steps_of bytes)
  -- on a file of 32, with a budget of at least n: done after exactly n pairs, and rows 0 to 13 are as the steps say
  pub ends : (n : ℕ) → Translates t bytes (length out) n → length s.file ≡ 32 → n ≤ budget → answer ≡ done_after n s'
  pub rows : (n : ℕ) → Translates t bytes (length out) n → length s.file ≡ 32 → n ≤ budget → rows_of s'.file ≡ meaning (steps_of bytes) (rows_of s.file)
  -- however it ends, the mark is as it came: no pair of a sheet moves a lane to an end of its range
  pub mark : s'.mark ≡ s.mark
  -- however the run ends, file and mark are those of the machine steps that it counts
  pub counted : (n : ℕ) (r : Run) → Translates t bytes (length out) n → answer ≡ accepted r → machine_steps r.executed (take (2 * n) out') s ≡ stepping.accepted s'
  -- not translated: a refusal, and all that was lent is as it was
  pub refused : ((n : ℕ) → Translates t bytes (length out) n → ⊥) → ((r : Run) → answer ≢ accepted r) × ((out' ≡ out) × (s' ≡ s))
