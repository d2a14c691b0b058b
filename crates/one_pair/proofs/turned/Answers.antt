use borrow.Author.Tests.{lt-ltb, le-ltb, eq-eqb, ne_eqb}
use Rattle.one_pair.proofs.turned.Goals as goal

pub returns-then-row-lt16 : goal.returns-then-row-lt16
returns-then-row-lt16 c = rw (lt-ltb _ 16 c.if-row-lt16.true)

pub returns-then-row-eq30 : goal.returns-then-row-eq30
returns-then-row-eq30 c = rw (le-ltb _ 16 c.if-row-lt16.false, eq-eqb _ 30 c.if-row-eq30.true)

pub returns : goal.returns
returns c = rw (le-ltb _ 16 c.if-row-lt16.false, ne_eqb _ 30 c.if-row-eq30.false)
