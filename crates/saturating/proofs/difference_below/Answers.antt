use mathlib.Core.Path.{◌∙◌}
use native.Mathlib.Omega.{arith}
use lib.Pow.{pow_mono}
use Rattle.saturating.proofs.Ends.{top_lane, bottom-lane, reach}
use Rattle.saturating.proofs.Tests.{difference-below-x, difference-below-y, difference_below}
use Rattle.saturating.proofs.difference_below.Goals as goal

pub returns-then-t-l : goal.returns-then-t-l
returns-then-t-l c =
    let l = c.args.l in
    difference-below-y c.args.s l.bits.count l.x l.y c.highest-t.result l.bits.positive l.x_fits l.y_fits c.highest-t.ensures (omega arith)

pub returns-then-t-l-2 : goal.returns-then-t-l-2
returns-then-t-l-2 c =
    let l = c.args.l in
    difference-below-x c.args.s l.bits.count l.x l.y c.highest-t.result l.bits.positive l.x_fits l.y_fits c.highest-t.ensures (omega arith) (omega arith)

pub overflow_add-result : goal.overflow_add-result
overflow_add-result c =
    let l = c.args.l in
    let t = c.highest-t.ensures ∙ top_lane c.args.s l.bits.count (omega arith) in
    let b = c.lowest.ensures ∙ bottom-lane c.args.s l.bits.count (omega arith) in
    record { fits = omega (arith, reach c.args.s l.bits.count (omega arith), pow_mono {i = l.bits.count} {j = 64} (omega arith)) }

pub returns : goal.returns
returns c =
    let l = c.args.l in
    difference_below c.args.s l.bits.count l.x l.y c.highest-t.result l.bits.positive l.x_fits l.y_fits c.highest-t.ensures c.lowest.result c.lowest.ensures (omega arith) (omega arith)
