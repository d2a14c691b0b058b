use Rattle.lanes.specs.Lane.{lane_of, lanes_of}
use Rattle.std.proofs.Common.{◌/◌, rules}
use Rattle.lanes.proofs.Gathered.{gathered}
use Rattle.lanes.proofs.lanes.Goals as goal

pub returns : goal.returns
unfolding lanes_of
returns c =
    let a = c.args in
    let b = c.from-b.result.count in
    rw (← c.from-b.ensures) (gathered (lane_of a.op b) b b b (64 / b) a.d a.n a.m c.gather.result c.gather.ensures.below (λ i h. let e = c.gather.ensures.each i h in search rules))
