-- What is promised of lanes of w and 2w bits beyond the contracts; each is proved under its name in proofs/Promises.antt.
-- Assumes nothing.
use Rattle.std.specs.Prelude.{◌≡◌, ℕ, ◌+◌, ◌*◌, ◌/◌, ◌^◌, ◌<◌, ◌≤◌, ℤ}
use Rattle.std.specs.Int.Signed.{shr_z}
use Rattle.laws.specs.Signed.{modulo}
use Rattle.insn.specs.declared.Width.{Width}
use Rattle.insn.specs.declared.Width.TheVariants.{B16}
use Rattle.insn.specs.Widths.{bits_of}
use Rattle.insn.specs.declared.Sign.TheVariants.{Unsigned, Signed}
use Rattle.lanes.specs.Promises.{lane_at}
use Rattle.double_lanes.specs.declared.LongOp.TheVariants as long
use Rattle.double_lanes.specs.declared.WideOp.TheVariants as wide
use Rattle.double_lanes.specs.declared.NarrowOp.TheVariants as narrow
use Rattle.double_lanes.specs.declared.DoubleOp.{DoubleOp}
use Rattle.double_lanes.specs.declared.DoubleOp.TheVariants.{Long, Wide, Narrow}
use Rattle.double_lanes.specs.Double.{lengths_of, lane_bits, double_lane, double_lanes, double_of}
use Rattle.double_lanes.specs.Halves.{half_of}

-- lane i of the result is the operation on lane i of each operand, for every w
abbrev pub EachDouble : Type 0
EachDouble =
    (op : DoubleOp) (w k i d n m : ℕ) → i < k
    → let q = lengths_of op in
    lane_at (lane_bits q.d w) i (double_lanes op w k d n m)
    ≡ double_lane op w (lane_at (lane_bits q.d w) i d) (lane_at (lane_bits q.n w) i n) (lane_at (lane_bits q.m w) i m)

-- on whole registers, with lanes of at most 32 bits in a doubleword, it is the operation on their low halves and on their high ones
abbrev pub DoubleHalves : Type 0
DoubleHalves =
    (op : DoubleOp) (w : Width) (d d' n n' m m' : ℕ) → bits_of w ≤ 32
    → let q = lengths_of op in
    d < 2 ^ lane_bits q.d 32 → n < 2 ^ lane_bits q.n 32 → m < 2 ^ lane_bits q.m 32
    → double_of op w (d + 2 ^ lane_bits q.d 32 * d') (n + 2 ^ lane_bits q.n 32 * n') (m + 2 ^ lane_bits q.m 32 * m')
    ≡ half_of op w d n m + 2 ^ lane_bits q.d 32 * half_of op w d' n' m'

-- a lane, one half and a whole register stay in the target's bits
abbrev pub DoubleLaneBelow : Type 0
DoubleLaneBelow = (op : DoubleOp) (w d n m : ℕ) → double_lane op w d n m < 2 ^ lane_bits (lengths_of op).d w

abbrev pub HalfBelow : Type 0
HalfBelow = (op : DoubleOp) (w : Width) (d n m : ℕ) → half_of op w d n m < 2 ^ lane_bits (lengths_of op).d 32

abbrev pub DoubleBelow : Type 0
DoubleBelow = (op : DoubleOp) (w : Width) (d n m : ℕ) → double_of op w d n m < 2 ^ lane_bits (lengths_of op).d 64

-- from bit w on, a whole number's low w bits are the high half of its 2w bits
abbrev pub HighHalf : Type 0
HighHalf = (w : ℕ) (z : ℤ) → modulo w (shr_z z (2 ^ w)) ≡ modulo (2 * w) z / 2 ^ w

-- worked lanes between 8 and 16 bits, the ends of the ranges among them, one between 32 and 64, and a half
abbrev pub WorkedDoubles : Type 0
WorkedDoubles =
    (double_lane (Long long.Add Unsigned) 8 0 255 255 ≡ 510)
    × (double_lane (Long long.Add Signed) 8 0 255 255 ≡ 0xfffe)
    × (double_lane (Long long.Sub Unsigned) 8 0 1 2 ≡ 0xffff)
    × (double_lane (Long long.Mul Unsigned) 8 0 255 255 ≡ 65025)
    × (double_lane (Long long.Mul Signed) 8 0 128 128 ≡ 16384)
    × (double_lane (Long long.Mla Signed) 8 0xffff 255 255 ≡ 0)
    × (double_lane (Long long.Mls Signed) 8 0 128 127 ≡ 16256)
    × (double_lane (Long long.Mov Signed) 8 0 128 0 ≡ 0xff80)
    × (double_lane (Long long.Mov Unsigned) 8 0 128 0 ≡ 0x0080)
    × (double_lane (Long (long.Shl 7) Signed) 8 0 129 0 ≡ 0xc080)
    × (double_lane (Wide wide.Add Signed) 8 0 0 255 ≡ 0xffff)
    × (double_lane (Wide wide.Sub Signed) 8 0 5 255 ≡ 6)
    × (double_lane (Narrow (narrow.Shr 4)) 8 0 0x1234 0 ≡ 0x23)
    × (double_lane (Narrow (narrow.Shr 8)) 8 0 0xff34 0 ≡ 0xff)
    × (double_lane (Narrow narrow.Add) 8 0 0xff00 0x01ff ≡ 0)
    × (double_lane (Narrow narrow.Add) 8 0 0x00ff 0x0001 ≡ 1)
    × (double_lane (Narrow narrow.Sub) 8 0 0 1 ≡ 255)
    × (double_lane (Long long.Mul Signed) 32 0 0x8000_0000 0x8000_0000 ≡ 0x4000_0000_0000_0000)
    × (half_of (Long long.Mul Signed) B16 0 0x8000_ffff 0x8000_0002 ≡ 0x4000_0000_ffff_fffe)
