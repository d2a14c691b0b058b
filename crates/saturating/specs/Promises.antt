-- What is promised of the range beyond the contracts; each is proved under its name in proofs/Promises.antt.
-- Assumes nothing.
use Rattle.std.specs.Prelude.{Bool, true, false, ◌≢◌, ◌≡◌, ℕ, ◌^◌, ◌<◌, ◌≤◌, ℤ, nat_abs, ◌-ℤ◌}
use Rattle.std.specs.Int.Signed.{le_z}
use Rattle.laws.specs.Choice.{both}
use Rattle.laws.specs.Signed.{modulo}
use Rattle.insn.specs.declared.Sign.{Sign}
use Rattle.arithmetic.specs.Whole.{read_as}
use Rattle.saturating.specs.Range.{lowest, highest, clamp, outside}

-- a whole number is in the range
abbrev pub within : Sign → ℕ → ℤ → Bool
within s w z = both (le_z (lowest s w) z) (le_z z (highest s w))

-- what a lane is read as is in the range, and a number in the range is what its w bits are read as
abbrev pub LaneWithin : Type 0
LaneWithin = (s : Sign) (w x : ℕ) → 0 < w → x < 2 ^ w → within s w (read_as s w x) ≡ true

abbrev pub WithinRead : Type 0
WithinRead = (s : Sign) (w : ℕ) (z : ℤ) → 0 < w → within s w z ≡ true → read_as s w (modulo w z) ≡ z

-- a number that was moved is in the range, one in the range is not moved, and none in the range is nearer than the one moved to
abbrev pub MovedWithin : Type 0
MovedWithin = (s : Sign) (w : ℕ) (z : ℤ) → within s w (clamp s w z) ≡ true

abbrev pub NotMoved : Type 0
NotMoved = (s : Sign) (w : ℕ) (z : ℤ) → within s w z ≡ true → clamp s w z ≡ z

abbrev pub Nearest : Type 0
Nearest = (s : Sign) (w : ℕ) (y z : ℤ) → within s w y ≡ true → nat_abs (clamp s w z -ℤ z) ≤ nat_abs (y -ℤ z)

-- a number outside the range becomes another one, and no other number does
abbrev pub OutsideMoved : Type 0
OutsideMoved = (s : Sign) (w : ℕ) (z : ℤ) → (outside s w z ≡ true → clamp s w z ≢ z) × (outside s w z ≡ false → clamp s w z ≡ z)
