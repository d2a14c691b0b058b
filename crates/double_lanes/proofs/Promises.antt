-- The proofs of what specs/Promises.antt states.
-- Assumes nothing.
use mathlib.Core.Path.{refl}
use Prim.Native.Nat.{◌/◌}
use native.Mathlib.Nat.{mul-div-le}
use Rattle.laws.specs.Signed.{twos_complement, modulo}
use Rattle.insn.specs.Widths.{bits_of}
use Rattle.arithmetic.specs.Whole.{read_as}
use Rattle.lanes.specs.Lane.{lanewise}
use Rattle.lanes.proofs.Lanewise.{each}
use Rattle.double_lanes.specs.Double.{lengths_of, lane_bits, exact_double, double_lane, double_lanes, double_of}
use Rattle.double_lanes.specs.Halves.{half_of}
use Rattle.double_lanes.specs.Promises.{EachDouble, DoubleHalves, DoubleLaneBelow, HalfBelow, DoubleBelow, HighHalf, WorkedDoubles}
use Rattle.double_lanes.proofs.Doubles.{lane-lt, lanes-below, whole-halves, high-half}

pub each_double : EachDouble
unfolding double_lanes
each_double op w = let q = lengths_of op in each (double_lane op w) (lane_bits q.d w) (lane_bits q.n w) (lane_bits q.m w) (lane-lt op w)

pub double_halves : DoubleHalves
double_halves op w d d' n n' m m' = whole-halves op w d d' n n' m m'

pub double_lane_below : DoubleLaneBelow
double_lane_below = lane-lt

pub half_below : HalfBelow
unfolding half_of
half_below op w d n m = lanes-below op (bits_of w) (32 / bits_of w) 32 d n m (mul-div-le 32 (bits_of w))

pub double_below : DoubleBelow
unfolding double_of
double_below op w d n m = lanes-below op (bits_of w) (64 / bits_of w) 64 d n m (mul-div-le 64 (bits_of w))

pub high_half : HighHalf
high_half = high-half

pub worked_doubles : WorkedDoubles
unfolding twos_complement read_as modulo exact_double double_lane double_lanes half_of lanewise
worked_doubles = (refl, refl, refl, refl, refl, refl, refl, refl, refl, refl, refl, refl, refl, refl, refl, refl, refl, refl, refl)
