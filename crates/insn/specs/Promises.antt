-- Promises beyond the contracts; proofs/Promises.antt proves each under its name.
-- Assumes nothing.
use Rattle.std.specs.Prelude.{◌≡◌, Result}
use Rattle.insn.specs.declared.Refusal.{Refusal}
use Rattle.insn.specs.Answers.{answer}
use Rattle.insn.specs.Refusals.{number}

-- no two refusals have the same number
abbrev pub NumberedApart : Type 0
NumberedApart = (f g : Refusal) → number f ≡ number g → f ≡ g

-- an answer says which result it is of
abbrev pub AnswersApart : Type 0 → Type 0
AnswersApart A = (x y : Result A Refusal) → answer x ≡ answer y → x ≡ y
