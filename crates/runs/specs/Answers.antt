-- What a run's answer stands for, in the papers' numbers.
-- Assumes nothing.
use Rattle.std.specs.Prelude.{⊤, Result, Ok, Err}
use Rattle.insn.specs.declared.Refusal.{Refusal}
use Rattle.insn.specs.Refusals.{number}
use Rattle.machine.specs.State.{State}
use Rattle.runs.specs.declared.Ran.{Ran}
use Rattle.runs.specs.Run.{Ending, done, stopped, Run}

-- how a run ended
abbrev pub ending_of : Result ⊤ Refusal → Ending
ending_of (Ok tt) = done
ending_of (Err f) = stopped (number f)

-- a run's answer, with the state that it leaves
abbrev pub ran_of : Ran → State → Run
ran_of r s = record { ending = ending_of r.outcome; executed = r.executed; state = s }
