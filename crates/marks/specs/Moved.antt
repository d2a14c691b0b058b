-- Whether an operation moves a lane to an end of its range: the second result of the manual's SatQ, at any lane.
-- From ARM DDI 0406C, A8.8, VQADD and VQSUB, of the machine's names the only ones that do so; and document 02, F-8.
-- n and m are the sources; `size` is 64 for a doubleword and 128 for a quadword.
-- Assumes nothing.
use Rattle.std.specs.Prelude.{Bool, false, ℕ, ◌/◌, ℤ}
use Rattle.laws.specs.Search.{some_below}
use Rattle.insn.specs.declared.Sign.{Sign}
use Rattle.insn.specs.declared.Width.{Width}
use Rattle.insn.specs.Widths.{bits_of}
use Rattle.arithmetic.specs.Whole.{read_as}
use Rattle.saturating.specs.declared.SaturatingOp.{SaturatingOp}
use Rattle.saturating.specs.Range.{outside, exact_saturating}
use Rattle.lanes.specs.declared.LaneOp.{LaneOp}
use Rattle.lanes.specs.declared.LaneOp.TheVariants.{Add, Sub, Mul, Mla, Mls, Max, Min, Cgt, Cge, Ceq, Tst, Shl, Shr, Saturating, Halving}
use Rattle.lanes.specs.Promises.{lane_at}
use Rattle.operations.specs.declared.Operation.{Operation}
use Rattle.operations.specs.declared.Operation.TheVariants.{Lanes, Bits, Constant}

-- the exact result at a lane of a saturating operation, x and y being the sources' lanes; and it is outside the range
abbrev pub exact_lane : SaturatingOp → Sign → ℕ → ℕ → ℕ → ℤ
exact_lane op s w x y = exact_saturating op (read_as s w x) (read_as s w y)

abbrev pub lane_moved : SaturatingOp → Sign → ℕ → ℕ → ℕ → Bool
lane_moved op s w x y = outside s w (exact_lane op s w x y)

-- some lane of it
unfoldable pub some_moved : ℕ → SaturatingOp → Sign → Width → ℕ → ℕ → Bool
some_moved size op s w n m = let b = bits_of w in some_below (size / b) (λ i. lane_moved op s b (lane_at b i n) (lane_at b i m))

-- no other lane operation moves one
abbrev pub lanes_moved : ℕ → LaneOp → Width → ℕ → ℕ → Bool
lanes_moved size (Saturating op s) w n m = some_moved size op s w n m
lanes_moved size Add w n m = false
lanes_moved size Sub w n m = false
lanes_moved size Mul w n m = false
lanes_moved size Mla w n m = false
lanes_moved size Mls w n m = false
lanes_moved size (Max s) w n m = false
lanes_moved size (Min s) w n m = false
lanes_moved size (Cgt s) w n m = false
lanes_moved size (Cge s) w n m = false
lanes_moved size Ceq w n m = false
lanes_moved size Tst w n m = false
lanes_moved size (Shl k) w n m = false
lanes_moved size (Shr s k) w n m = false
lanes_moved size (Halving op s) w n m = false

-- and no other operation
abbrev pub moved_by : ℕ → Operation → ℕ → ℕ → Bool
moved_by size (Lanes op w) n m = lanes_moved size op w n m
moved_by size (Bits op) n m = false
moved_by size (Constant op p) n m = false
