-- For the contracts of this crate's own functions alone.
-- Assumes nothing.
use Rattle.std.specs.Prelude.{ℕ, ◌+◌, ◌-◌, ◌^◌, ltb, Option, Some, None}
use Rattle.laws.specs.Choice.{choose}

-- the set of row first + d, where a byte is the digit d (48 is 0), below n
abbrev pub digit_row : ℕ → ℕ → ℕ → Option ℕ
digit_row first n b = choose (ltb b 48) None (choose (ltb (b - 48) n) (Some (2 ^ (first + (b - 48)))) None)
