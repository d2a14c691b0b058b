-- What each case of the answers stands for, in the papers' numbers.
-- Assumes nothing.
use Rattle.std.specs.Prelude.{ℕ, Option, Some, None, Result, Ok, Err}
use Rattle.laws.specs.AnswerAt.{AnswerAt, accepted, refused, refused_at}
use Rattle.insn.specs.declared.Refusal.{Refusal}
use Rattle.insn.specs.Refusals.{number}
use Rattle.steps.specs.declared.faults.SheetError.{SheetError}

-- a refusal of the whole sheet, or of one step, with its index
abbrev pub refused_with : {A : Type 0} → Refusal → Option ℕ → AnswerAt A
refused_with f None = refused (number f)
refused_with f (Some i) = refused_at (number f) i

abbrev pub refused_for : {A : Type 0} → SheetError → AnswerAt A
refused_for e = refused_with e.cause e.step

abbrev pub answer_at : {A : Type 0} → Result A SheetError → AnswerAt A
answer_at (Ok a) = accepted a
answer_at (Err e) = refused_for e
