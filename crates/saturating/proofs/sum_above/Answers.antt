use native.Mathlib.Omega.{arith}
use Rattle.saturating.proofs.Tests.{sum-above-x, sum-above-y, sum-above}
use Rattle.saturating.proofs.sum_above.Goals as goal

pub returns-then-t-l : goal.returns-then-t-l
returns-then-t-l c =
    let l = c.args.l in
    sum-above-x c.args.s l.bits.count l.x l.y c.highest-t.result l.bits.positive l.x_fits l.y_fits c.highest-t.ensures (omega arith)

pub returns-then-t-l-2 : goal.returns-then-t-l-2
returns-then-t-l-2 c =
    let l = c.args.l in
    sum-above-y c.args.s l.bits.count l.x l.y c.highest-t.result l.bits.positive l.x_fits l.y_fits c.highest-t.ensures (omega arith)

pub returns : goal.returns
returns c =
    let l = c.args.l in
    sum-above c.args.s l.bits.count l.x l.y c.highest-t.result l.bits.positive l.x_fits l.y_fits c.highest-t.ensures (omega arith) (omega arith)
