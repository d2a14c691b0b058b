use Rattle.double_lanes.proofs.Doubles.{twice_room, long_is, wide_is, narrow_is}
use Rattle.double_lanes.proofs.nth.Goals as goal

pub invariant_of-q : goal.invariant_of-q
invariant_of-q c =
    let a = c.args in
    record { inside = twice_room a.w.single.count a.w.double.count a.i a.w.twice c.requires }

pub invariant_of-q-in-Wide : goal.invariant_of-q-in-Wide
invariant_of-q-in-Wide c =
    let a = c.args in
    record { inside = twice_room a.w.single.count a.w.double.count a.i a.w.twice c.requires }

pub invariant_of-q-in-Narrow : goal.invariant_of-q-in-Narrow
invariant_of-q-in-Narrow c =
    let a = c.args in
    record { inside = twice_room a.w.single.count a.w.double.count a.i a.w.twice c.requires }

pub returns-in-Long : goal.returns-in-Long
returns-in-Long c =
    let a = c.args in
    let x = rw (c.lane.ensures.bits, c.lane.ensures.x) at c.extend-x.ensures in
    let y = rw (c.lane-in-Long.ensures.bits, c.lane-in-Long.ensures.x) at c.extend-y.ensures in
    rw c.in-Long.is
    (long_is a.w.single.count a.w.double.count a.i a.d a.n a.m c.long_lane.result a.w.twice c.in-Long.o c.in-Long.s
    c.number.result c.extend-x.result c.extend-y.result c.number.ensures x y c.long_lane.ensures)

pub returns-in-Wide : goal.returns-in-Wide
returns-in-Wide c =
    let a = c.args in
    let y = rw (c.lane-in-Wide.ensures.bits, c.lane-in-Wide.ensures.x) at c.extend.ensures in
    rw c.in-Wide.is
    (wide_is a.w.single.count a.w.double.count a.i a.d a.n a.m c.wide_lane.result a.w.twice c.in-Wide.o c.in-Wide.s
    c.number-in-Wide.result c.extend.result c.number-in-Wide.ensures y c.wide_lane.ensures)

pub returns-in-Narrow : goal.returns-in-Narrow
returns-in-Narrow c =
    let a = c.args in
    rw c.in-Narrow.is
    (narrow_is a.w.single.count a.w.double.count a.i a.d a.n a.m c.narrow_lane.result a.w.twice c.in-Narrow.o
    c.number-in-Narrow.result c.number-in-Narrow-2.result c.number-in-Narrow.ensures c.number-in-Narrow-2.ensures c.narrow_lane.ensures)
