-- The promises of specs/Promises.antt.
-- Assumes nothing.
use mathlib.Core.Path.{◌≡◌, sym, ◌∙◌, ap, ap₂}
use mathlib.Core.List.{List}
use Prim.Native.Nat.{ℕ}
use native.Mathlib.Omega.{arith}
use lib.ListN.{length}
use lib.Seq.{length-take-le}
use Rattle.laws.specs.AnswerAt.{AnswerAt}
use Rattle.effects.specs.File.{File}
use Rattle.runs.proofs.Promises.{runs_apart}
use Rattle.sheet.specs.Evaluation.{evaluated_by}
use Rattle.sheet.specs.Promises.{SheetsHold, EvaluatesAsBefore, LargerEvaluates, EvaluatesMarksIgnored, FilledAloneRuns, EvaluationsApart}
use Rattle.steps.specs.Meaning.{paired, rows_of, row_at}
use Rattle.steps.specs.Steps.{steps_of}
use Rattle.std.specs.Prelude.{Ok, Err}
use Rattle.steps.proofs.Answers.{refusals_apart, not_accepted}
use Rattle.steps.proofs.Promises.{filled_alone}
use Rattle.translator.proofs.Promises.{as_before, larger_translates, marks_ignored}
use Rattle.sheet.proofs.Rows.{paired-length}
use Rattle.sheet.proofs.Whole.{sheets-hold, rows}

pub sheets_hold : SheetsHold
sheets_hold = sheets-hold

pub evaluates_as_before : EvaluatesAsBefore
evaluates_as_before t bytes out s budget all =
    let e = as_before t bytes out all in
    ap₂ (λ (a : AnswerAt ℕ) (o : List ℕ). evaluated_by a o s budget) e.0 e.1

pub larger_evaluates : LargerEvaluates
larger_evaluates small large bytes out s budget n w e =
    let l = larger_translates small large bytes out n w e in
    ap₂ (λ (a : AnswerAt ℕ) (o : List ℕ). evaluated_by a o s budget) (l.0 ∙ sym e) l.1

pub evaluates_marks_ignored : EvaluatesMarksIgnored
evaluates_marks_ignored filled bytes out s budget =
    let e = marks_ignored filled bytes out in
    ap₂ (λ (a : AnswerAt ℕ) (o : List ℕ). evaluated_by a o s budget) e.0 e.1

-- a file of 32 has fourteen rows
rows-length : (file : File) → length file ≡ 32 → length (rows_of file) ≡ 14
unfolding rows_of
rows-length file e = length-take-le 14 (paired file) (omega (arith, paired-length 16 file e))

pub filled_alone_runs : FilledAloneRuns
filled_alone_runs t bytes out s u budget n a enough g h same r small filled =
    ap (λ (l : List ℕ). row_at l r) (rows t bytes out s budget n a g.size enough g.small)
    ∙ filled_alone t (steps_of bytes) (rows_of s.file) (rows_of u.file) a.keep a.filled (rows-length s.file g.size) (rows-length u.file h.size) same r small filled
    ∙ ap (λ (l : List ℕ). row_at l r) (sym (rows t bytes out u budget n a h.size enough h.small))

pub evaluations_apart : EvaluationsApart
evaluations_apart (Ok x) (Ok y) s t e = ap Ok (runs_apart x y s t (cc)).0
evaluations_apart (Ok x) (Err y) s t e = not_accepted _ y e
evaluations_apart (Err x) (Ok y) s t e = not_accepted _ x (sym e)
evaluations_apart (Err x) (Err y) s t e = ap Err (refusals_apart x y e)
