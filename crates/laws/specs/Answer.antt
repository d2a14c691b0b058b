-- What a call answers, in the papers' words: the values that it accepts with, or the number of the refusal.
-- Assumes nothing.
use Rattle.std.specs.Prelude.{ℕ}

pub data Answer (A : Type 0) : Type 0 where
  accepted : A → Answer A
  refused : ℕ → Answer A

-- an answer carried on: a refusal stays what it is
abbrev pub and_then : {A B : Type 0} → Answer A → (A → Answer B) → Answer B
and_then (accepted a) f = f a
and_then (refused n) f = refused n
