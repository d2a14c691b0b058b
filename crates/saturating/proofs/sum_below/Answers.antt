use native.Mathlib.Omega.{arith}
use Rattle.saturating.proofs.Tests.{sum-below-x, sum-below-y, sum_below}
use Rattle.saturating.proofs.sum_below.Goals as goal

pub returns-then-l-t : goal.returns-then-l-t
returns-then-l-t c =
    let l = c.args.l in
    sum-below-x c.args.s l.bits.count l.x l.y c.highest-t.result l.bits.positive l.x_fits l.y_fits c.highest-t.ensures (omega arith)

pub returns-then-l-t-2 : goal.returns-then-l-t-2
returns-then-l-t-2 c =
    let l = c.args.l in
    sum-below-y c.args.s l.bits.count l.x l.y c.highest-t.result l.bits.positive l.x_fits l.y_fits c.highest-t.ensures (omega arith)

pub returns : goal.returns
returns c =
    let l = c.args.l in
    sum_below c.args.s l.bits.count l.x l.y c.highest-t.result l.bits.positive l.x_fits l.y_fits c.highest-t.ensures c.ones.result c.ones.ensures (omega arith) (omega arith)
