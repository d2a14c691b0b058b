-- The proofs of what specs/Promises.antt states.
-- Assumes nothing.
use mathlib.Core.Path.{refl}
use Prim.Native.Nat.{◌-◌, ◌/◌, ◌^◌}
use native.Mathlib.Nat.{lt_of_lt_of_le, mul-div-le}
use lib.Pow.{pow_mono}
use Rattle.laws.specs.Signed.{twos_complement, modulo}
use Rattle.laws.proofs.Signed.{modulo-lt}
use Rattle.arithmetic.specs.Whole.{read_as, greater, lesser, ones_if}
use Rattle.saturating.specs.Range.{lowest, highest, clamp, exact_saturating}
use Rattle.saturating.proofs.Promises.{moved_within, within_read}
use Rattle.halving.specs.Half.{half}
use Rattle.lanes.specs.Lane.{exact, lane_of, lanewise, lanes_of}
use Rattle.insn.specs.Widths.{size_of, bits_of}
use Rattle.insn.proofs.Sizes.{size-le, lanes}
use Rattle.lanes.specs.Promises.{EachLane, Split, LaneBelow, LanesBelow, ReadBack, SaturatingRead, Worked, WorkedEnds, RowByHalves}
use Rattle.arithmetic.proofs.Signs as signs
use Rattle.lanes.proofs.Lanewise as laws

pub each_lane : EachLane
each_lane = laws.each

pub split : Split
split = laws.split

pub row_by_halves : RowByHalves
unfolding lanes_of
row_by_halves op w a b c d e g =
    let l = lanes (size_of w) 3 (size-le w) in
    let v = bits_of w in
    rw (l.doubled, l.counted) (laws.halves (lane_of op v) v v v (2 ^ (3 - size_of w)) 64 64 64 a b c d e g l.fill l.fill l.fill)

pub lane_below : LaneBelow
unfolding lane_of
lane_below op w d n m = modulo-lt w (exact op w d n m)

pub lanes_below : LanesBelow
unfolding lanes_of
lanes_below size op w d n m =
    let b = bits_of w in
    lt_of_lt_of_le (laws.lanes-lt (lane_of op b) b b b (lane_below op b) (size / b) d n m) (pow_mono (mul-div-le size b))

pub read_back : ReadBack
read_back = signs.again

pub saturating_read : SaturatingRead
unfolding lane_of
saturating_read op s w d n m l =
    let z = exact_saturating op (read_as s w n) (read_as s w m) in
    within_read s w (clamp s w z) l (moved_within s w z)

pub worked_ends : WorkedEnds
unfolding twos_complement read_as modulo lowest highest clamp half lane_of
worked_ends =
    (refl, refl, refl, refl, refl, refl, refl, refl, refl, refl, refl, refl, refl, refl, refl, refl, refl, refl, refl, refl, refl, refl, refl, refl)

pub worked : Worked
unfolding twos_complement read_as modulo greater lesser ones_if lane_of lanewise lanes_of
worked = (refl, refl, refl, refl, refl, refl, refl, refl, refl, refl, refl, refl, refl, refl, refl, refl, refl, refl)
