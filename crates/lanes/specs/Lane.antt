-- What an operation does to one lane of w bits, and to each lane of a number. Lane 0 is the lowest.
-- From ARM DDI 0406C, A8.8; an operation has its instruction's name, without the v and the type.
-- Assumes nothing.
use Rattle.std.specs.Prelude.{ℕ, zero, suc, ◌+◌, ◌*◌, ◌/◌, ◌%◌, ◌^◌, not, eqb, ℤ, pos, ◌+ℤ◌, ◌-ℤ◌, ◌*ℤ◌}
use Rattle.std.specs.Int.Bits.{bit_and}
use Rattle.std.specs.Int.Signed.{lt_z, le_z, shr_z}
use Rattle.laws.specs.Signed.{modulo}
use Rattle.insn.specs.declared.Width.{Width}
use Rattle.insn.specs.Widths.{bits_of}
use Rattle.arithmetic.specs.Whole.{read_as, greater, lesser, ones_if}
use Rattle.saturating.specs.Range.{clamp, exact_saturating}
use Rattle.halving.specs.Half.{exact_halving}
use Rattle.lanes.specs.declared.LaneOp.{LaneOp}
use Rattle.lanes.specs.declared.LaneOp.TheVariants.{Add, Sub, Mul, Mla, Mls, Max, Min, Cgt, Cge, Ceq, Tst, Shl, Shr, Saturating, Halving}

-- The whole number for a lane: exact, but moved to an end of the range where a saturating one is outside it. d is the old
-- target's lane, n and m are the sources'. A shift reads n alone. shr_z rounds down, so a right shift by w or more gives 0,
-- or -1 for a negative lane.
abbrev pub exact : LaneOp → ℕ → ℕ → ℕ → ℕ → ℤ
exact Add w d n m = pos n +ℤ pos m
exact Sub w d n m = pos n -ℤ pos m
exact Mul w d n m = pos n *ℤ pos m
exact Mla w d n m = pos d +ℤ pos n *ℤ pos m
exact Mls w d n m = pos d -ℤ pos n *ℤ pos m
exact (Max s) w d n m = greater (read_as s w n) (read_as s w m)
exact (Min s) w d n m = lesser (read_as s w n) (read_as s w m)
exact (Cgt s) w d n m = ones_if (lt_z (read_as s w m) (read_as s w n)) w
exact (Cge s) w d n m = ones_if (le_z (read_as s w m) (read_as s w n)) w
exact Ceq w d n m = ones_if (eqb n m) w
exact Tst w d n m = ones_if (not (eqb (bit_and n m) 0)) w
exact (Shl k) w d n m = pos n *ℤ pos (2 ^ k)
exact (Shr s k) w d n m = shr_z (read_as s w n) (2 ^ k)
exact (Saturating op s) w d n m = clamp s w (exact_saturating op (read_as s w n) (read_as s w m))
exact (Halving op s) w d n m = exact_halving op (read_as s w n) (read_as s w m)

-- the lane that is left of it
unfoldable pub lane_of : LaneOp → ℕ → ℕ → ℕ → ℕ → ℕ
lane_of op w d n m = modulo w (exact op w d n m)

-- f at each of k lanes, the target's of wd bits and the sources' of wn and wm: at lane 0, and above it at the k - 1 that are left
unfoldable pub lanewise : (ℕ → ℕ → ℕ → ℕ) → ℕ → ℕ → ℕ → ℕ → ℕ → ℕ → ℕ → ℕ
lanewise f wd wn wm zero d n m = 0
lanewise f wd wn wm (suc k) d n m =
    f (d % 2 ^ wd) (n % 2 ^ wn) (m % 2 ^ wm) + 2 ^ wd * lanewise f wd wn wm k (d / 2 ^ wd) (n / 2 ^ wn) (m / 2 ^ wm)

-- an operation at each lane of numbers of `size` bits
unfoldable pub lanes_of : ℕ → LaneOp → Width → ℕ → ℕ → ℕ → ℕ
lanes_of size op w d n m = let b = bits_of w in lanewise (lane_of op b) b b b (size / b) d n m
