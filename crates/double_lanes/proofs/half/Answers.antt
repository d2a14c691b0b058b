use Rattle.std.proofs.Common.{◌≡◌, ℕ, ◌/◌, ◌<◌, ap, ◌∙◌, rules}
use native.Mathlib.Nat.{div-eq_of_lt}
use Rattle.tables.specs.declared.lengths.Lengths.{Lengths}
use Rattle.lanes.specs.Lane.{lanewise}
use Rattle.lanes.specs.Promises.{lane_at}
use Rattle.lanes.proofs.Gathered.{gathered}
use Rattle.double_lanes.specs.declared.DoubleOp.{DoubleOp}
use Rattle.double_lanes.specs.Double.{lengths_of, lane_bits, double_lane, double_lanes}
use Rattle.double_lanes.specs.Halves.{nth_lane, half_of}
use Rattle.double_lanes.proofs.Doubles.{lane-lt}
use Rattle.double_lanes.proofs.half.Goals as goal

-- the bits of a lane of the target
target_bits : (op : DoubleOp) (q : Lengths) (b w : ℕ) → q ≡ lengths_of op → w ≡ lane_bits q.d b → w ≡ lane_bits (lengths_of op).d b
target_bits op q b w e h = h ∙ ap (λ (q : Lengths). lane_bits q.d b) e

-- no lane of more than 32 bits is in a doubleword's half
no_lane : (op : DoubleOp) (b d n m : ℕ) → 32 < b → 0 ≡ double_lanes op b (32 / b) d n m
unfolding double_lanes lanewise
no_lane op b d n m h = rw (div-eq_of_lt h)

pub gather-requires-clause-fits : goal.gather-requires-clause-fits
gather-requires-clause-fits c =
    λ i r h e. let a = c.args in
    let b = c.in-Some.b.single.count in
    let v : r ≡ nth_lane a.op b i a.d a.n a.m = search rules in
    rw (v, target_bits a.op c.lengths_of.result b c.of.result.count c.lengths_of.ensures c.of.ensures) (lane-lt a.op b _ _ _)

pub returns-in-Some : goal.returns-in-Some
unfolding half_of double_lanes
returns-in-Some c =
    let a = c.args in
    let b = c.in-Some.b.single.count in
    let q = lengths_of a.op in
    let x = c.gather.result in
    let e = target_bits a.op c.lengths_of.result b c.of.result.count c.lengths_of.ensures c.of.ensures in
    rw (← c.in-Some.ensures.some, ← e)
    (gathered (double_lane a.op b) c.of.result.count (lane_bits q.n b) (lane_bits q.m b) (32 / b) a.d a.n a.m x c.gather.ensures.below
    (λ i h. let f = c.gather.ensures.each i h in
    let v : lane_at c.of.result.count i x ≡ nth_lane a.op b i a.d a.n a.m = search rules in
    rw (← e) at v))

pub returns-in-None : goal.returns-in-None
unfolding half_of
returns-in-None c =
    let a = c.args in
    no_lane a.op _ a.d a.n a.m (c.new.ensures.none c.in-None.is)
