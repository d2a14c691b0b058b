use Rattle.laws.specs.Signed.{modulo}
use Rattle.arithmetic.specs.Whole.{read_as}
use Rattle.arithmetic.proofs.whole.Lane.extend.Goals as goal

pub returns-in-Unsigned : goal.returns-in-Unsigned
unfolding read_as modulo
returns-in-Unsigned c =
    rw c.in-Unsigned.is c.cut.ensures
