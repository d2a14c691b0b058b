-- Numbers as text: lists of bytes.
-- Assumes nothing.
use Rattle.std.specs.Prelude.{Bool, true, false, List, [], ◌∷◌, ◌++◌, ℕ, zero, suc, ◌+◌, ◌/◌, ◌%◌, ltb, ℤ, pos, negsuc}
use Rattle.laws.specs.Choice.{choose}

-- the decimal digits of n as bytes (48 is 0), with no zero in front and none of 0; f is at least as many as there are
unfoldable pub digits : ℕ → ℕ → List ℕ
digits zero n = []
digits (suc f) zero = []
digits (suc f) (suc n) = digits f (suc n / 10) ++ ((48 + suc n % 10) ∷ [])

-- n in decimal: its digits, of which 0 has the last too
unfoldable pub decimal : ℕ → List ℕ
decimal n = digits n (n / 10) ++ ((48 + n % 10) ∷ [])

-- a minus for what is negative
unfoldable pub minus : Bool → List ℕ
minus true = 45 ∷ []  -- -
minus false = []

-- a whole number, with a sign only when it is negative; `negsuc n` is -1 - n
unfoldable pub signed_decimal : ℤ → List ℕ
signed_decimal (pos n) = decimal n
signed_decimal (negsuc n) = 45 ∷ decimal (suc n)  -- -

-- a hexadecimal digit, in lower case: 48 is 0, and 87 + 10 is a
abbrev pub hex_digit : ℕ → ℕ
hex_digit d = choose (ltb d 10) (48 + d) (87 + d)

-- the four hexadecimal digits of a halfword
unfoldable pub hex4 : ℕ → List ℕ
hex4 h = hex_digit (h / 4096 % 16) ∷ hex_digit (h / 256 % 16) ∷ hex_digit (h / 16 % 16) ∷ hex_digit (h % 16) ∷ []
