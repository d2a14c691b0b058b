-- An answer whose refusal may say where: the values that it accepts with; the number of the refusal; or that number and an index.
-- Assumes nothing.
use Rattle.std.specs.Prelude.{ℕ}

pub data AnswerAt (A : Type 0) : Type 0 where
  accepted : A → AnswerAt A
  refused : ℕ → AnswerAt A
  refused_at : ℕ → ℕ → AnswerAt A
