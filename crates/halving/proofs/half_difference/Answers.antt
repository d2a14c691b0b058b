use Rattle.halving.specs.Half.{half}
use Rattle.halving.proofs.Halving.{half-difference}
use Rattle.halving.proofs.half_difference.Goals as goal

pub returns : goal.returns
unfolding half
returns c =
    let a = c.args in
    let l = a.l in
    let x = rw (c.first.ensures.bits, c.first.ensures.x) at c.right.ensures in
    let y = rw (c.second.ensures.bits, c.second.ensures.x) at c.right-2.ensures in
    half-difference a.s l.bits.count l.x l.y l.bits.positive l.x_fits l.y_fits c.right.result c.right-2.result x y
    c.difference-halves.result c.difference.result c.difference-halves.ensures c.difference.ensures
