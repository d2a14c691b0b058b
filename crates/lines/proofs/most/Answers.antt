use mathlib.Core.Path.{sym, ◌∙◌}
use native.Mathlib.Omega.{arith}
use Rattle.lines.proofs.Listable.{listable}
use Rattle.lines.proofs.most.Goals as goal

pub overflow_mul-result : goal.overflow_mul-result
overflow_mul-result c =
    omega (arith, listable c.args.n (sym c.is_listable.ensures ∙ c.if-is_listable.true))

pub overflow_add-result : goal.overflow_add-result
overflow_add-result c =
    omega (arith, listable c.args.n (sym c.is_listable.ensures ∙ c.if-is_listable.true))

pub overflow_add-result-then-is_listable : goal.overflow_add-result-then-is_listable
overflow_add-result-then-is_listable c =
    omega (arith, listable c.args.n (sym c.is_listable.ensures ∙ c.if-is_listable.true))

pub returns-then-is_listable : goal.returns-then-is_listable
returns-then-is_listable c =
    rw (sym c.is_listable.ensures ∙ c.if-is_listable.true)

pub returns-else-is_listable : goal.returns-else-is_listable
returns-else-is_listable c =
    rw (sym c.is_listable.ensures ∙ c.if-is_listable.false)
