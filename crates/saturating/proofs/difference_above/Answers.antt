use native.Mathlib.Omega.{arith}
use Rattle.saturating.proofs.Tests.{difference-above-x, difference-above-y, difference-above}
use Rattle.saturating.proofs.difference_above.Goals as goal

pub returns-then-t-l : goal.returns-then-t-l
returns-then-t-l c =
    let l = c.args.l in
    difference-above-x c.args.s l.bits.count l.x l.y c.highest-t.result l.bits.positive l.x_fits l.y_fits c.highest-t.ensures (omega arith)

pub returns-then-l-t : goal.returns-then-l-t
returns-then-l-t c =
    let l = c.args.l in
    difference-above-y c.args.s l.bits.count l.x l.y c.highest-t.result l.bits.positive l.x_fits l.y_fits c.highest-t.ensures (omega arith)

pub returns : goal.returns
returns c =
    let l = c.args.l in
    difference-above c.args.s l.bits.count l.x l.y c.highest-t.result l.bits.positive l.x_fits l.y_fits c.highest-t.ensures (omega arith) (omega arith)
