-- What is promised of lanes beyond the contracts; each is proved under its name in proofs/Promises.antt.
-- Assumes nothing.
use Rattle.std.specs.Prelude.{◌≡◌, ℕ, ◌+◌, ◌*◌, ◌/◌, ◌%◌, ◌^◌, ◌<◌}
use Rattle.insn.specs.declared.Width.{Width}
use Rattle.insn.specs.declared.Width.TheVariants.{B16}
use Rattle.insn.specs.declared.Sign.{Sign}
use Rattle.insn.specs.declared.Sign.TheVariants.{Unsigned, Signed}
use Rattle.lanes.specs.declared.LaneOp.{LaneOp}
use Rattle.lanes.specs.declared.LaneOp.TheVariants.{Add, Sub, Mul, Mla, Mls, Max, Min, Cgt, Cge, Ceq, Tst, Shl, Shr, Saturating, Halving}
use Rattle.saturating.specs.declared.SaturatingOp.{SaturatingOp}
use Rattle.saturating.specs.declared.SaturatingOp.TheVariants.{Qadd, Qsub}
use Rattle.saturating.specs.Range.{clamp, exact_saturating}
use Rattle.halving.specs.declared.HalvingOp.TheVariants.{Hadd, Rhadd, Hsub}
use Rattle.arithmetic.specs.Whole.{read_as}
use Rattle.lanes.specs.Lane.{lane_of, lanewise, lanes_of}
use Rattle.laws.specs.Signed.{modulo}

-- lane i of x, where lanes have w bits
abbrev pub lane_at : ℕ → ℕ → ℕ → ℕ
lane_at w i x = x / 2 ^ (w * i) % 2 ^ w

-- lane i of the result is f of lane i of each operand, for every three widths
abbrev pub EachLane : Type 0
EachLane =
    (f : ℕ → ℕ → ℕ → ℕ) (wd wn wm : ℕ) → ((d n m : ℕ) → f d n m < 2 ^ wd)
    → (k i d n m : ℕ) → i < k → lane_at wd i (lanewise f wd wn wm k d n m) ≡ f (lane_at wd i d) (lane_at wn i n) (lane_at wm i m)

-- j lanes a, c, e below k lanes b, d, g: lane-wise on the joined numbers is lane-wise on their parts, for every three widths
abbrev pub Split : Type 0
Split =
    (f : ℕ → ℕ → ℕ → ℕ) (wd wn wm j k a b c d e g : ℕ) → a < 2 ^ (wd * j) → c < 2 ^ (wn * j) → e < 2 ^ (wm * j)
    → lanewise f wd wn wm (j + k) (a + 2 ^ (wd * j) * b) (c + 2 ^ (wn * j) * d) (e + 2 ^ (wm * j) * g)
    ≡ lanewise f wd wn wm j a c e + 2 ^ (wd * j) * lanewise f wd wn wm k b d g

-- its case for a row of 128 bits, which is two halves of 64
abbrev pub RowByHalves : Type 0
RowByHalves =
    (op : LaneOp) (w : Width) (a b c d e g : ℕ) → a < 2 ^ 64 → c < 2 ^ 64 → e < 2 ^ 64
    → lanes_of 128 op w (a + 2 ^ 64 * b) (c + 2 ^ 64 * d) (e + 2 ^ 64 * g) ≡ lanes_of 64 op w a c e + 2 ^ 64 * lanes_of 64 op w b d g

-- a lane stays below 2^w, and a number of `size` bits below 2^size
abbrev pub LaneBelow : Type 0
LaneBelow = (op : LaneOp) (w d n m : ℕ) → lane_of op w d n m < 2 ^ w

abbrev pub LanesBelow : Type 0
LanesBelow = (size : ℕ) (op : LaneOp) (w : Width) (d n m : ℕ) → lanes_of size op w d n m < 2 ^ size

-- a lane that is read by sign and taken modulo 2^w is the lane
abbrev pub ReadBack : Type 0
ReadBack = (s : Sign) (w x : ℕ) → x < 2 ^ w → modulo w (read_as s w x) ≡ x

-- the lane of a saturating operation, read by its sign, is the exact result, moved to the nearer end when outside the range
abbrev pub SaturatingRead : Type 0
SaturatingRead =
    (op : SaturatingOp) (s : Sign) (w d n m : ℕ) → 0 < w
    → read_as s w (lane_of (Saturating op s) w d n m) ≡ clamp s w (exact_saturating op (read_as s w n) (read_as s w m))

-- worked lanes, the ends of the ranges among them
abbrev pub Worked : Type 0
Worked =
    (lane_of Add 8 0 200 100 ≡ 44)
    × (lane_of Sub 8 0 1 2 ≡ 255)
    × (lane_of Mul 16 0 300 300 ≡ 24464)
    × (lane_of Mla 8 250 2 5 ≡ 4)
    × (lane_of Mls 8 1 2 5 ≡ 247)
    × (lane_of (Max Unsigned) 8 0 255 1 ≡ 255)
    × (lane_of (Max Signed) 8 0 255 1 ≡ 1)
    × (lane_of (Min Signed) 8 0 128 127 ≡ 128)
    × (lane_of (Cgt Unsigned) 8 0 1 255 ≡ 0)
    × (lane_of (Cgt Signed) 8 0 1 255 ≡ 255)
    × (lane_of (Cge Signed) 8 0 128 128 ≡ 255)
    × (lane_of Ceq 32 0 7 7 ≡ 0xffff_ffff)
    × (lane_of Tst 8 0 6 9 ≡ 0)
    × (lane_of (Shl 7) 8 0 3 0 ≡ 128)
    × (lane_of (Shr Unsigned 8) 8 0 255 0 ≡ 0)
    × (lane_of (Shr Signed 8) 8 0 128 0 ≡ 255)
    × (lane_of (Shr Signed 1) 8 0 129 0 ≡ 192)
    × (lanes_of 64 Add B16 0 0xffff_8000_0001_1234 0x0001_8000_0001_0001 ≡ 0x0000_0000_0002_1235)

-- sums and differences that stop at the ends, at 8 and at 64 bits, and halves that are rounded down
abbrev pub WorkedEnds : Type 0
WorkedEnds =
    (lane_of (Saturating Qadd Unsigned) 8 0 200 56 ≡ 255)
    × (lane_of (Saturating Qadd Unsigned) 8 0 200 55 ≡ 255)
    × (lane_of (Saturating Qadd Unsigned) 8 0 200 54 ≡ 254)
    × (lane_of (Saturating Qadd Signed) 8 0 100 28 ≡ 127)
    × (lane_of (Saturating Qadd Signed) 8 0 100 27 ≡ 127)
    × (lane_of (Saturating Qadd Signed) 8 0 128 255 ≡ 128)
    × (lane_of (Saturating Qadd Signed) 8 0 128 127 ≡ 255)
    × (lane_of (Saturating Qsub Unsigned) 8 0 1 2 ≡ 0)
    × (lane_of (Saturating Qsub Signed) 8 0 127 255 ≡ 127)
    × (lane_of (Saturating Qsub Signed) 8 0 128 1 ≡ 128)
    × (lane_of (Saturating Qsub Signed) 8 0 0 128 ≡ 127)
    × (lane_of (Saturating Qadd Unsigned) 64 0 0xffff_ffff_ffff_ffff 1 ≡ 0xffff_ffff_ffff_ffff)
    × (lane_of (Saturating Qadd Signed) 64 0 0x7fff_ffff_ffff_ffff 1 ≡ 0x7fff_ffff_ffff_ffff)
    × (lane_of (Saturating Qadd Signed) 64 0 0x8000_0000_0000_0000 0x8000_0000_0000_0000 ≡ 0x8000_0000_0000_0000)
    × (lane_of (Saturating Qsub Unsigned) 64 0 0 0xffff_ffff_ffff_ffff ≡ 0)
    × (lane_of (Saturating Qsub Signed) 64 0 0 0x8000_0000_0000_0000 ≡ 0x7fff_ffff_ffff_ffff)
    × (lane_of (Halving Hadd Unsigned) 8 0 255 254 ≡ 254)
    × (lane_of (Halving Hadd Signed) 8 0 255 254 ≡ 254)
    × (lane_of (Halving Hadd Signed) 8 0 255 0 ≡ 255)
    × (lane_of (Halving Rhadd Unsigned) 8 0 255 254 ≡ 255)
    × (lane_of (Halving Rhadd Signed) 8 0 255 0 ≡ 0)
    × (lane_of (Halving Hsub Unsigned) 8 0 0 1 ≡ 255)
    × (lane_of (Halving Hsub Signed) 8 0 128 127 ≡ 128)
    × (lane_of (Halving Hsub Signed) 8 0 0 1 ≡ 255)
