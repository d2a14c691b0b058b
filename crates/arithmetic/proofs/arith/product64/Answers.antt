use Rattle.std.proofs.Common.{arith}
use Rattle.arithmetic.proofs.Numbers.{product_is}
use Rattle.arithmetic.proofs.arith.product64.Goals as goal

pub returns : goal.returns
returns c =
    omega (arith, product_is c.args.x c.args.y)
