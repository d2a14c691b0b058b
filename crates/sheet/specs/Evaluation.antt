-- A sheet translated into an output, and the pairs that were written run on a state.
-- Assumes nothing.
use Rattle.std.specs.Prelude.{List, ℕ, ◌*◌, length, take}
use Rattle.laws.specs.AnswerAt.{AnswerAt, accepted, refused, refused_at}
use Rattle.machine.specs.State.{State}
use Rattle.steps.specs.declared.Terms.{Terms}
use Rattle.runs.specs.Run.{Run, run_of}
use Rattle.translator.specs.Translation.{translation_of, written_of}

-- the run of the output's first 2n halfwords from pair 0, or the translation's refusal
unfoldable pub evaluated_by : AnswerAt ℕ → List ℕ → State → ℕ → AnswerAt Run
evaluated_by (accepted n) out s budget = accepted (run_of (take (2 * n) out) 0 s budget)
evaluated_by (refused r) out s budget = refused r
evaluated_by (refused_at r i) out s budget = refused_at r i

abbrev pub evaluation_of : Terms → List ℕ → List ℕ → State → ℕ → AnswerAt Run
evaluation_of t bytes out s budget = evaluated_by (translation_of t bytes (length out)) (written_of t bytes out) s budget

-- the state that is left; a refusal of the translation leaves it as it was
abbrev pub state_left : AnswerAt Run → State → State
state_left (accepted r) s = r.state
state_left (refused r) s = s
state_left (refused_at r i) s = s
