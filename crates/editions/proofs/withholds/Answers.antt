use borrow.Author.Tests.{ne_eqb}
use Rattle.editions.proofs.ByNumber.{by_number}
use Rattle.editions.proofs.withholds.Goals as goal

pub returns-else-m-eq-VFMA : goal.returns-else-m-eq-VFMA
returns-else-m-eq-VFMA c = rw (c.in-B.is, ← by_number c.args.m, ne_eqb _ _ c.if-m-eq-VFMA.false)
