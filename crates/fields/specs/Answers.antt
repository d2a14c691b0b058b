-- What each case of the answer stands for, in the papers' numbers.
-- Assumes nothing.
use Rattle.std.specs.Prelude.{Bool, ℕ, Result, Ok, Err}
use Rattle.laws.specs.Answer.{Answer, accepted, refused}
use Rattle.insn.specs.declared.Refusal.{Refusal}
use Rattle.insn.specs.Refusals.{number}
use Rattle.fields.specs.Registers.{Bits, bits}

abbrev pub bits_answer : Result (Bool × ℕ) Refusal → Answer Bits
bits_answer (Ok (quad, d)) = accepted (bits quad d)
bits_answer (Err f) = refused (number f)
