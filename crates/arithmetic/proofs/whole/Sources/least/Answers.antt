use Rattle.std.proofs.Common.{sym, ◌∙◌}
use Rattle.arithmetic.specs.Whole.{lesser}
use Rattle.arithmetic.proofs.Signs.{again}
use Rattle.arithmetic.proofs.whole.Sources.least.Goals as goal

pub returns-then-less : goal.returns-then-less
unfolding lesser
returns-then-less c =
    let a = c.args.self in
    rw (sym c.less.ensures ∙ c.if-less.true) (sym (again c.args.s a.bits.count a.x a.x_fits))

pub returns-else-less : goal.returns-else-less
unfolding lesser
returns-else-less c =
    let a = c.args.self in
    rw (sym c.less.ensures ∙ c.if-less.false) (sym (again c.args.s a.bits.count a.y a.y_fits))
