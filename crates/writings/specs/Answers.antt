-- What each case of the answer stands for, in the papers' numbers.
-- Assumes nothing.
use Rattle.std.specs.Prelude.{ℕ, Result, Ok, Err}
use Rattle.laws.specs.Answer.{Answer, accepted, refused}
use Rattle.insn.specs.declared.Refusal.{Refusal}
use Rattle.insn.specs.Refusals.{number}
use Rattle.writings.specs.Forms.{Pair, pair}

abbrev pub pair_of : ℕ × ℕ → Pair
pair_of (hw1, hw2) = pair hw1 hw2

abbrev pub writing_answer : Result (ℕ × ℕ) Refusal → Answer Pair
writing_answer (Ok (hw1, hw2)) = accepted (pair hw1 hw2)
writing_answer (Err f) = refused (number f)
