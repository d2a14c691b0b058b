-- Operations between lanes of w bits and lanes of 2w bits: a doubleword has lanes of w bits, and a quadword as many of 2w.
-- From ARM DDI 0406C, A8.8: VADDL, VSUBL, VMULL, VMLAL, VMLSL, VMOVL and VSHLL are long, VADDW and VSUBW are wide,
-- VSHRN, VADDHN and VSUBHN are narrow.
-- Assumes nothing.
use Rattle.std.specs.Prelude.{Bool, ℕ, ◌*◌, ◌/◌, ◌^◌, ℤ, pos, ◌+ℤ◌, ◌-ℤ◌, ◌*ℤ◌}
use Rattle.std.specs.Int.Signed.{shr_z}
use Rattle.laws.specs.Choice.{choose}
use Rattle.laws.specs.Signed.{modulo}
use Rattle.insn.specs.declared.Width.{Width}
use Rattle.insn.specs.Widths.{bits_of}
use Rattle.tables.specs.declared.DiffShape.{DiffShape}
use Rattle.tables.specs.declared.DiffShape.TheVariants as shape
use Rattle.tables.specs.declared.lengths.Lengths.{Lengths}
use Rattle.tables.specs.Lengths.{shape_lengths}
use Rattle.arithmetic.specs.Whole.{read_as}
use Rattle.lanes.specs.Lane.{lanewise}
use Rattle.double_lanes.specs.declared.LongOp.{LongOp}
use Rattle.double_lanes.specs.declared.LongOp.TheVariants as long
use Rattle.double_lanes.specs.declared.WideOp.{WideOp}
use Rattle.double_lanes.specs.declared.WideOp.TheVariants as wide
use Rattle.double_lanes.specs.declared.NarrowOp.{NarrowOp}
use Rattle.double_lanes.specs.declared.NarrowOp.TheVariants as narrow
use Rattle.double_lanes.specs.declared.DoubleOp.{DoubleOp}
use Rattle.double_lanes.specs.declared.DoubleOp.TheVariants.{Long, Wide, Narrow}

-- which of the registers are quadwords: long is Q D D, wide Q Q D, narrow D Q Q
abbrev pub shape_of : DoubleOp → DiffShape
shape_of (Long op s) = shape.Long
shape_of (Wide op s) = shape.Wide
shape_of (Narrow op) = shape.Narrow

abbrev pub lengths_of : DoubleOp → Lengths
lengths_of op = shape_lengths (shape_of op)

-- the bits of a lane, by the register that it is in
abbrev pub lane_bits : Bool → ℕ → ℕ
lane_bits quad w = choose quad (2 * w) w

-- The exact whole number for a lane: d is the old target's lane, a and b are the sources'. A move and a shift read a alone.
abbrev pub exact_long : LongOp → ℤ → ℤ → ℤ → ℤ
exact_long long.Add d a b = a +ℤ b
exact_long long.Sub d a b = a -ℤ b
exact_long long.Mul d a b = a *ℤ b
exact_long long.Mla d a b = d +ℤ a *ℤ b
exact_long long.Mls d a b = d -ℤ a *ℤ b
exact_long long.Mov d a b = a
exact_long (long.Shl k) d a b = a *ℤ pos (2 ^ k)

abbrev pub exact_wide : WideOp → ℤ → ℤ → ℤ
exact_wide wide.Add a b = a +ℤ b
exact_wide wide.Sub a b = a -ℤ b

-- what a narrow one keeps the low w bits of: a shifted lane, and a sum or a difference from bit w on, which is its high half
abbrev pub exact_narrow : NarrowOp → ℕ → ℤ → ℤ → ℤ
exact_narrow (narrow.Shr k) w a b = shr_z a (2 ^ k)
exact_narrow narrow.Add w a b = shr_z (a +ℤ b) (2 ^ w)
exact_narrow narrow.Sub w a b = shr_z (a -ℤ b) (2 ^ w)

-- the sources of a long or wide one are read by the name's sign, any other lane from 0
unfoldable pub exact_double : DoubleOp → ℕ → ℕ → ℕ → ℕ → ℤ
exact_double (Long op s) w d n m = exact_long op (pos d) (read_as s w n) (read_as s w m)
exact_double (Wide op s) w d n m = exact_wide op (read_as s (2 * w) n) (read_as s w m)
exact_double (Narrow op) w d n m = exact_narrow op w (pos n) (pos m)

-- the lane that is left of it: as many bits as a lane of the target has
unfoldable pub double_lane : DoubleOp → ℕ → ℕ → ℕ → ℕ → ℕ
double_lane op w d n m = modulo (lane_bits (lengths_of op).d w) (exact_double op w d n m)

-- an operation at each of k lanes
unfoldable pub double_lanes : DoubleOp → ℕ → ℕ → ℕ → ℕ → ℕ → ℕ
double_lanes op w k d n m =
    let q = lengths_of op in
    lanewise (double_lane op w) (lane_bits q.d w) (lane_bits q.n w) (lane_bits q.m w) k d n m

-- and at all lanes of whole registers, where a doubleword's have the width's bits
unfoldable pub double_of : DoubleOp → Width → ℕ → ℕ → ℕ → ℕ
double_of op w d n m = double_lanes op (bits_of w) (64 / bits_of w) d n m
