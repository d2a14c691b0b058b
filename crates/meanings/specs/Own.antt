-- For the contracts of the functions that do an operation, in effects alone.
-- Assumes nothing.
use Rattle.std.specs.Prelude.{Bool, true, ◌≡◌, ℕ, ◌+◌, ◌<◌}
use Rattle.tables.specs.declared.lengths.Lengths.{Lengths}

-- a register that a file of 32 doublewords has
pub record InFile (quad : Bool) (k : ℕ) : Type 0 where
  pub lower : k < 32
  pub upper : quad ≡ true → k + 1 < 32

-- three of them
pub record Within (l : Lengths) (d n m : ℕ) : Type 0 where
  pub target : InFile l.d d
  pub first : InFile l.n n
  pub second : InFile l.m m
