-- A set of rows is a number with row r at bit r.
-- Assumes nothing.
use Rattle.std.specs.Prelude.{Bool, List, [], ◌∷◌, ℕ, ◌/◌, ◌%◌, ◌^◌, eqb}
use Rattle.std.specs.Int.Bits.{bit_or}

-- row r is in a set
unfoldable pub in_set : ℕ → ℕ → Bool
in_set rows r = eqb (rows / 2 ^ r % 2) 1

-- the set of the rows of a list
unfoldable pub set_of : List ℕ → ℕ
set_of [] = 0
set_of (r ∷ rs) = bit_or (2 ^ r) (set_of rs)
