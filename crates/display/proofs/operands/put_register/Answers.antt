use mathlib.Core.Path.{refl}
use native.Mathlib.Omega.{arith}
use Rattle.text.proofs.Decimal.{within}
use Rattle.text.proofs.Writes.{then, respell}
use Rattle.display.proofs.operands.put_register.Goals as goal

pub returns-else-n-lt100 : goal.returns-else-n-lt100
returns-else-n-lt100 c =
    then c.put.ensures (respell {b = 3} refl (within 2 c.args.n (omega arith)) c.put_five.ensures)
