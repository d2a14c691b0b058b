-- Promises beyond the contract; proofs/Promises.antt proves each under its name.
-- Assumes nothing.
use Rattle.std.specs.Prelude.{List, ◌≢◌, ◌≡◌, ℕ, ◌*◌, ◌%◌, ◌^◌, ◌≤◌, length, Result}
use Rattle.laws.specs.AnswerAt.{accepted}
use Rattle.steps.specs.declared.Step.{Step}
use Rattle.steps.specs.declared.Terms.{Terms}
use Rattle.steps.specs.Faults.{terms}
use Rattle.steps.specs.Promises.{first_broken, HasAll, Within}
use Rattle.steps.specs.Rules.{AllKeep}
use Rattle.steps.specs.Steps.{steps_of}
use Rattle.steps.specs.declared.faults.SheetError.{SheetError}
use Rattle.steps.specs.Answers.{answer_at}
use Rattle.recipes.specs.Pairs.{half_pairs, pairs_of, halfwords_of}
use Rattle.translator.specs.Translation.{records_of, translation_by, translation_of, written_by, written_of, Translates}

-- bytes are translated exactly when they should be
abbrev pub Exactly : Type 0
Exactly =
    (t : Terms) (bytes : List ℕ) (room n : ℕ)
    → (translation_of t bytes room ≡ accepted n → Translates t bytes room n) × (Translates t bytes room n → translation_of t bytes room ≡ accepted n)

-- with all rows in the list answer and output are those of a sheet without a list: the only fault of a step is 13
abbrev pub AsBefore : Type 0
AsBefore =
    (t : Terms) (bytes out : List ℕ) → HasAll t
    → let before = translation_by (first_broken 0 (steps_of bytes)) bytes (length out) in
    (translation_of t bytes (length out) ≡ before) × (written_of t bytes out ≡ written_by before (halfwords_of (records_of bytes)) out)

-- a larger list translates, to the same pairs, all that a smaller one does
abbrev pub LargerTranslates : Type 0
LargerTranslates =
    (small large : Terms) (bytes out : List ℕ) (n : ℕ) → Within small large → translation_of small bytes (length out) ≡ accepted n
    → (translation_of large bytes (length out) ≡ accepted n) × (written_of large bytes out ≡ written_of small bytes out)

-- marks above row 13 are ignored
abbrev pub MarksIgnored : Type 0
MarksIgnored =
    (filled : ℕ) (bytes out : List ℕ)
    → (translation_of (terms filled) bytes (length out) ≡ translation_of (terms (filled % 2 ^ 14)) bytes (length out))
    × (written_of (terms filled) bytes out ≡ written_of (terms (filled % 2 ^ 14)) bytes out)

-- every record of steps that keep the rules is written: two halfwords each
abbrev pub AllWritten : Type 0
AllWritten = (steps : List Step) → AllKeep steps → length (halfwords_of (pairs_of steps)) ≡ 2 * length (pairs_of steps)

-- at most ten pairs a half of a constant
abbrev pub HalfShort : Type 0
HalfShort = (r v : ℕ) → length (half_pairs r v) ≤ 10

-- demand 1: a refused translation leaves the output as it was
abbrev pub OutputKept : Type 0
OutputKept = (t : Terms) (bytes out : List ℕ) → ((n : ℕ) → translation_of t bytes (length out) ≢ accepted n) → written_of t bytes out ≡ out

-- an answer says which case it is
abbrev pub TranslationsApart : Type 0
TranslationsApart = (x y : Result ℕ SheetError) → answer_at x ≡ answer_at y → x ≡ y
