-- Promises beyond the contract; proofs/Promises.antt proves each under its name.
-- Assumes nothing.
use Rattle.std.specs.Prelude.{true, List, ◌≡◌, ℕ, ◌%◌, ◌^◌, ◌≤◌, ◌<◌, length, get_or, Result}
use Rattle.laws.specs.AnswerAt.{accepted}
use Rattle.laws.specs.Choice.{either}
use Rattle.effects.specs.File.{Good}
use Rattle.machine.specs.State.{State}
use Rattle.recipes.specs.Pairs.{halfwords_of}
use Rattle.steps.specs.declared.Terms.{Terms}
use Rattle.steps.specs.Faults.{terms, set_by}
use Rattle.steps.specs.Meaning.{rows_of, row_at}
use Rattle.steps.specs.Promises.{first_broken, HasAll, Within}
use Rattle.steps.specs.Sets.{in_set}
use Rattle.steps.specs.Steps.{steps_of}
use Rattle.translator.specs.Translation.{records_of, translation_by, translation_of, written_by, written_of, Translates}
use Rattle.runs.specs.declared.Ran.{Ran}
use Rattle.steps.specs.declared.faults.SheetError.{SheetError}
use Rattle.sheet.specs.Answers.{evaluation_answer}
use Rattle.sheet.specs.Demand3.{Demand3}
use Rattle.sheet.specs.Evaluation.{evaluated_by, evaluation_of, state_left}

-- demand 3, for every list of filled rows, every list of bytes, every output, every file of 64-bit numbers with every mark,
-- and every budget
abbrev pub SheetsHold : Type 0
SheetsHold =
    (t : Terms) (bytes out : List ℕ) (s : State) (budget : ℕ) → ((k : ℕ) → get_or s.file k 0 < 2 ^ 64)
    → Demand3 t bytes out s budget (written_of t bytes out) (state_left (evaluation_of t bytes out s budget) s) (evaluation_of t bytes out s budget)

-- with all rows in the list an evaluation is that of a sheet without a list: the only fault of a step is 13
abbrev pub EvaluatesAsBefore : Type 0
EvaluatesAsBefore =
    (t : Terms) (bytes out : List ℕ) (s : State) (budget : ℕ) → HasAll t
    → let before = translation_by (first_broken 0 (steps_of bytes)) bytes (length out) in
    evaluation_of t bytes out s budget ≡ evaluated_by before (written_by before (halfwords_of (records_of bytes)) out) s budget

-- what a smaller list lets be translated, a larger one evaluates alike
abbrev pub LargerEvaluates : Type 0
LargerEvaluates =
    (small large : Terms) (bytes out : List ℕ) (s : State) (budget n : ℕ) → Within small large → translation_of small bytes (length out) ≡ accepted n
    → evaluation_of large bytes out s budget ≡ evaluation_of small bytes out s budget

-- marks above row 13 are ignored
abbrev pub EvaluatesMarksIgnored : Type 0
EvaluatesMarksIgnored =
    (filled : ℕ) (bytes out : List ℕ) (s : State) (budget : ℕ)
    → evaluation_of (terms filled) bytes out s budget ≡ evaluation_of (terms (filled % 2 ^ 14)) bytes out s budget

-- the rows that an evaluation leaves
abbrev pub rows_left : Terms → List ℕ → List ℕ → State → ℕ → List ℕ
rows_left t bytes out s budget = rows_of (state_left (evaluation_of t bytes out s budget) s).file

-- no row that nobody filled comes into a sum: of a translated sheet the runs from two files, which hold the same in the rows
-- of the list, leave the same in every row that is in the list or that a step sets
abbrev pub FilledAloneRuns : Type 0
FilledAloneRuns =
    (t : Terms) (bytes out : List ℕ) (s u : State) (budget n : ℕ) → Translates t bytes (length out) n → n ≤ budget → Good s.file → Good u.file
    → ((r : ℕ) → r < 14 → in_set t.filled r ≡ true → row_at (rows_of s.file) r ≡ row_at (rows_of u.file) r)
    → (r : ℕ) → r < 14 → either (in_set t.filled r) (set_by (steps_of bytes) r) ≡ true
    → row_at (rows_left t bytes out s budget) r ≡ row_at (rows_left t bytes out u budget) r

-- an answer says which case it is
abbrev pub EvaluationsApart : Type 0
EvaluationsApart = (x y : Result Ran SheetError) (s t : State) → evaluation_answer x s ≡ evaluation_answer y t → x ≡ y
