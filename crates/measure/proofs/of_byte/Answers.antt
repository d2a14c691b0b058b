use native.Mathlib.Omega.{arith}
use borrow.Author.Tests.{eq-eqb, ne_eqb}
use Rattle.recipes.specs.Pairs.{add_byte}
use Rattle.measure.proofs.of_byte.Goals as goal

pub returns-then-byte-eq0 : goal.returns-then-byte-eq0
unfolding add_byte
returns-then-byte-eq0 c = ((λ r. rw (eq-eqb _ 0 c.if-byte-eq0.true)), omega arith)

pub returns-else-byte-eq0 : goal.returns-else-byte-eq0
unfolding add_byte
returns-else-byte-eq0 c = ((λ r. rw (ne_eqb _ 0 c.if-byte-eq0.false)), omega arith)
