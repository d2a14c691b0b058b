use borrow.Author.Tests.{eq-eqb, ne_eqb}
use Rattle.recipes.proofs.records.by_sign.Goals as goal

pub returns-then-sign-eq1 : goal.returns-then-sign-eq1
returns-then-sign-eq1 c = rw (eq-eqb _ 1 c.if-sign-eq1.true)

pub returns-else-sign-eq1 : goal.returns-else-sign-eq1
returns-else-sign-eq1 c = rw (ne_eqb _ 1 c.if-sign-eq1.false)
