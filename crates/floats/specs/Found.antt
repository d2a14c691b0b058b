-- The immediate of a float: the inverse of `float_of`.
-- Assumes nothing.
use Rattle.std.specs.Prelude.{ℕ, Float}
use Rattle.std.specs.Float.Ieee.{eq}
use Rattle.laws.specs.Search.{Found, first_below}
use Rattle.floats.specs.Floats.{float_of}

-- the imm8 whose float compares equal to x, if there is one; zeros, infinities and NaN have none (Promises.FloatOnce)
unfoldable pub find_float : Float → Found
find_float x = first_below 256 (λ (b : ℕ). eq (float_of b) x)
