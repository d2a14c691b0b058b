use mathlib.Core.Path.{◌∙◌}
use native.Mathlib.Omega.{arith}
use Rattle.arithmetic.specs.Whole.{read_as}
use Rattle.saturating.specs.Range.{exact_saturating}
use Rattle.saturating.proofs.Sides.{low-lane, high_lane, own_lane, from_zero}
use Rattle.saturating.proofs.saturated.Goals as goal

pub returns-then-below : goal.returns-then-below
returns-then-below c =
    let a = c.args in
    let z = exact_saturating a.op (read_as a.s a.l.bits.count a.l.x) (read_as a.s a.l.bits.count a.l.y) in
    low-lane a.s a.l.bits.count z c.below.ensures c.if-below.true c.lowest.ensures

pub returns-then-above : goal.returns-then-above
returns-then-above c =
    let a = c.args in
    let z = exact_saturating a.op (read_as a.s a.l.bits.count a.l.x) (read_as a.s a.l.bits.count a.l.y) in
    high_lane a.s a.l.bits.count z c.below.ensures c.above.ensures c.if-below.false c.if-above.true c.highest.ensures

pub returns : goal.returns
returns c =
    let a = c.args in
    let z = exact_saturating a.op (read_as a.s a.l.bits.count a.l.x) (read_as a.s a.l.bits.count a.l.y) in
    own_lane a.s a.l.bits.count z c.below.ensures c.above.ensures c.if-below.false c.if-above.false
    (c.wrapped.ensures ∙ from_zero a.op a.s a.l.bits.count a.l.x a.l.y (omega arith) (omega arith))
