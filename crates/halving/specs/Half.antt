-- Halves of sums and differences of lanes.
-- From ARM DDI 0406C, A8.8, VHADD, VHSUB and VRHADD; and document 02, F-1.
-- Assumes nothing.
use Rattle.std.specs.Prelude.{ℤ, pos, ◌+ℤ◌, ◌-ℤ◌}
use Rattle.std.specs.Int.Signed.{shr_z}
use Rattle.halving.specs.declared.HalvingOp.{HalvingOp}
use Rattle.halving.specs.declared.HalvingOp.TheVariants.{Hadd, Rhadd, Hsub}

-- the floor of half of a whole number, also of a negative one (Promises.HalfDown)
unfoldable pub half : ℤ → ℤ
half z = shr_z z 2

-- what an operation leaves of the lanes a and b of its sources, as whole numbers
abbrev pub exact_halving : HalvingOp → ℤ → ℤ → ℤ
exact_halving Hadd a b = half (a +ℤ b)
exact_halving Rhadd a b = half (a +ℤ b +ℤ pos 1)
exact_halving Hsub a b = half (a -ℤ b)
