-- The first number that passes a test, and whether one does.
-- Assumes nothing.
use Rattle.std.specs.Prelude.{Bool, false, ℕ, zero, suc, Option, Some, None}
use Rattle.laws.specs.Choice.{choose, either}

pub data Found : Type 0 where
  at : ℕ → Found
  none : Found

-- what an Option of the code stands for
abbrev pub found : Option ℕ → Found
found (Some n) = at n
found None = none

-- of n numbers from i on
unfoldable pub first_from : (ℕ → Bool) → ℕ → ℕ → Found
first_from p i zero = none
first_from p i (suc n) = let rest = first_from p (suc i) n in choose (p i) (at i) rest

-- of the numbers below n
abbrev pub first_below : ℕ → (ℕ → Bool) → Found
first_below n p = first_from p 0 n

-- whether one of the numbers below n passes
unfoldable pub some_below : ℕ → (ℕ → Bool) → Bool
some_below zero p = false
some_below (suc n) p = let rest = some_below n p in either (p n) rest
