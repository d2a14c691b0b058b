-- What is promised of halves beyond the contracts; each is proved under its name in proofs/Promises.antt.
-- Assumes nothing.
use Rattle.std.specs.Prelude.{true, ◌≡◌, ℤ, pos, ◌+ℤ◌}
use Rattle.std.specs.Int.Signed.{le_z, lt_z}
use Rattle.halving.specs.Half.{half}

-- the half of z is the floor: twice it is at most z, and twice the next whole number is more
abbrev pub HalfDown : Type 0
HalfDown = (z : ℤ) → (le_z (half z +ℤ half z) z ≡ true) × (lt_z z (half z +ℤ pos 1 +ℤ (half z +ℤ pos 1)) ≡ true)
