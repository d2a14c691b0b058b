-- Promises beyond the contracts; proofs/Promises.antt proves each under its name.
-- Assumes nothing.
use Rattle.std.specs.Prelude.{true, ◌≡◌, ℕ, ◌<◌, leb, Float, Option}
use Rattle.std.specs.Float.{binary32, binary64}
use Rattle.std.specs.Float.Ieee.{of_bits, eq, fits}
use Rattle.std.specs.Float.Ieee.Exact.{HasValue}
use Rattle.laws.specs.Search.{at, found}
use Rattle.floats.specs.Floats.{k_of, float_of, float_bits}
use Rattle.floats.specs.Found.{find_float}

-- the float's value over whole numbers: its sign is a, and its magnitude times 128 is k
abbrev pub FloatValue : Type 0
FloatValue = (b : ℕ) → HasValue (float_of b) (leb 128 b) (k_of b) 128

-- the float is the one whose single-precision pattern the manual gives
abbrev pub FloatPattern : Type 0
FloatPattern = (b : ℕ) → b < 256 → of_bits binary32 (float_bits b) ≡ float_of b

-- a float of 64 bits has one immediate at most, and that of an immediate has it
abbrev pub FloatOnce : Type 0
FloatOnce =
    (x : Float) (a b : ℕ) → a < 256 → b < 256 → fits binary64 x ≡ true
    → eq (float_of a) x ≡ true → eq (float_of b) x ≡ true → a ≡ b

abbrev pub FloatBack : Type 0
FloatBack = (b : ℕ) → b < 256 → find_float (float_of b) ≡ at b

-- an answer says which case it is
abbrev pub FloatsFoundApart : Type 0
FloatsFoundApart = (x y : Option ℕ) → found x ≡ found y → x ≡ y
