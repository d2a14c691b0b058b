use Rattle.arithmetic.specs.Whole.{read_as}
use Rattle.arithmetic.proofs.whole.Sources.less.Goals as goal

pub returns-in-Unsigned : goal.returns-in-Unsigned
unfolding read_as
returns-in-Unsigned c =
    rw c.in-Unsigned.is
