-- For the contracts of building blocks alone: this crate's, and the families' that call them.
-- Assumes nothing.
use Rattle.std.specs.Prelude.{ℕ, Result, Ok, Err}
use Rattle.laws.specs.Answer.{Answer, accepted, refused}
use Rattle.insn.specs.declared.Refusal.{Refusal}
use Rattle.insn.specs.Refusals.{number}
use Rattle.writings.specs.Forms.{Three, numbers}

-- what each case of the answer about three operands stands for
abbrev pub fields_answer : Result (ℕ × ℕ × ℕ) Refusal → Answer Three
fields_answer (Ok (a, b, c)) = accepted (numbers a b c)
fields_answer (Err f) = refused (number f)
