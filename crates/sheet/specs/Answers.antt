-- What each case of the answer stands for, in the papers' numbers; a run with the state that it leaves.
-- Assumes nothing.
use Rattle.std.specs.Prelude.{Result, Ok, Err}
use Rattle.laws.specs.AnswerAt.{AnswerAt, accepted}
use Rattle.machine.specs.State.{State}
use Rattle.runs.specs.Answers.{ran_of}
use Rattle.runs.specs.Run.{Run}
use Rattle.runs.specs.declared.Ran.{Ran}
use Rattle.steps.specs.declared.faults.SheetError.{SheetError}
use Rattle.steps.specs.Answers.{refused_for}

abbrev pub evaluation_answer : Result Ran SheetError → State → AnswerAt Run
evaluation_answer (Ok r) s = accepted (ran_of r s)
evaluation_answer (Err e) s = refused_for e
