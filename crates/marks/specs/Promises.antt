-- Promises beyond the contracts; proofs/Promises.antt proves each under its name.
-- Assumes nothing.
use Rattle.std.specs.Prelude.{true, false, ◌≢◌, ◌≡◌, ℕ, ◌+◌, ◌*◌, ◌/◌, ◌^◌, ◌<◌, ℤ}
use Rattle.laws.specs.Choice.{either}
use Rattle.insn.specs.declared.Sign.{Sign}
use Rattle.insn.specs.declared.Sign.TheVariants.{Unsigned, Signed}
use Rattle.insn.specs.declared.Width.{Width}
use Rattle.insn.specs.declared.Width.TheVariants.{B8, B64}
use Rattle.insn.specs.Widths.{bits_of}
use Rattle.saturating.specs.declared.SaturatingOp.{SaturatingOp}
use Rattle.saturating.specs.declared.SaturatingOp.TheVariants.{Qadd, Qsub}
use Rattle.saturating.specs.Range.{clamp}
use Rattle.lanes.specs.declared.LaneOp.TheVariants.{Saturating}
use Rattle.lanes.specs.Promises.{lane_at}
use Rattle.operations.specs.declared.Operation.{Operation}
use Rattle.operations.specs.declared.Operation.TheVariants.{Lanes}
use Rattle.marks.specs.Moved.{exact_lane, some_moved, moved_by}

-- the exact result at lane i of two numbers
abbrev pub exact_at : SaturatingOp → Sign → Width → ℕ → ℕ → ℕ → ℤ
exact_at op s w i n m = let b = bits_of w in exact_lane op s b (lane_at b i n) (lane_at b i m)

-- an operation is a saturating one, and at a lane below `size` bits the exact result is another number after it was moved
pub record MovedLane (size : ℕ) (op : Operation) (n m : ℕ) : Type 0 where
  pub name : SaturatingOp
  pub sign : Sign
  pub width : Width
  pub lane : ℕ
  pub is : op ≡ Lanes (Saturating name sign) width
  pub there : lane < size / bits_of width
  pub moved : clamp sign (bits_of width) (exact_at name sign width lane n m) ≢ exact_at name sign width lane n m

-- an operation is said to move a lane exactly when it does
abbrev pub MovedExactly : Type 0
MovedExactly =
    (size : ℕ) (op : Operation) (n m : ℕ)
    → (moved_by size op n m ≡ true → MovedLane size op n m) × (MovedLane size op n m → moved_by size op n m ≡ true)

-- on quadwords it moves a lane where it does on their low doublewords or on their high ones
abbrev pub EitherHalf : Type 0
EitherHalf =
    (op : Operation) (n n' m m' : ℕ) → n < 2 ^ 64 → m < 2 ^ 64
    → moved_by 128 op (n + 2 ^ 64 * n') (m + 2 ^ 64 * m') ≡ either (moved_by 64 op n m) (moved_by 64 op n' m')

-- worked lanes: the highest and the lowest number are reached without a move, one more or less is one
abbrev pub WorkedMoves : Type 0
WorkedMoves =
    (some_moved 64 Qadd Unsigned B8 200 55 ≡ false)
    × (some_moved 64 Qadd Unsigned B8 200 56 ≡ true)
    × (some_moved 64 Qsub Unsigned B8 1 1 ≡ false)
    × (some_moved 64 Qsub Unsigned B8 1 2 ≡ true)
    × (some_moved 64 Qadd Signed B8 100 27 ≡ false)
    × (some_moved 64 Qadd Signed B8 100 28 ≡ true)
    × (some_moved 64 Qsub Signed B8 0x8000_0000_0000_0000 0x0100_0000_0000_0000 ≡ true)
    × (some_moved 64 Qsub Signed B8 0x8100_0000_0000_0000 0x0100_0000_0000_0000 ≡ false)
    × (some_moved 64 Qadd Unsigned B64 0xffff_ffff_ffff_ffff 1 ≡ true)
    × (some_moved 64 Qadd Signed B64 0xffff_ffff_ffff_ffff 1 ≡ false)
    × (some_moved 128 Qadd Unsigned B64 0xffff_ffff_ffff_ffff_0000_0000_0000_0000 0x0000_0000_0000_0001_0000_0000_0000_0000 ≡ true)
