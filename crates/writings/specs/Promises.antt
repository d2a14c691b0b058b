-- Promises beyond the contracts; proofs/Promises.antt proves each under its name.
-- Assumes nothing.
use Rattle.std.specs.Prelude.{◌≡◌, ℕ, Result}
use Rattle.insn.specs.declared.Refusal.{Refusal}
use Rattle.insn.specs.Promises.{AnswersApart}
use Rattle.writings.specs.Answers.{writing_answer}

-- an answer says which case it is
abbrev pub WritingsApart : Type 0
WritingsApart = (x y : Result (ℕ × ℕ) Refusal) → writing_answer x ≡ writing_answer y → x ≡ y

-- so does that about one place of a record, in 8 bits and in 16
abbrev pub FieldsApart : Type 0
FieldsApart = AnswersApart ℕ

abbrev pub WideFieldsApart : Type 0
WideFieldsApart = AnswersApart ℕ
