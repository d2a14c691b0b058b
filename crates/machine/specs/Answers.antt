-- What each case of the answer stands for, in the papers' numbers.
-- Assumes nothing.
use Rattle.std.specs.Prelude.{Result, Ok, Err}
use Rattle.laws.specs.Answer.{Answer, accepted, refused}
use Rattle.insn.specs.declared.Refusal.{Refusal}
use Rattle.insn.specs.Refusals.{number}
use Rattle.effects.specs.declared.State.{State as Left}
use Rattle.machine.specs.State.{State, state}

-- the state that it leaves, or the refusal
abbrev pub outcome_answer : Result Left Refusal → Answer State
outcome_answer (Ok s) = accepted (state s.file s.mark)
outcome_answer (Err f) = refused (number f)
