use Rattle.std.proofs.Common.{◌*◌, arith}
use Rattle.arithmetic.proofs.Numbers.{cut64}
use Rattle.arithmetic.proofs.arith.Bits.product.Goals as goal

pub returns : goal.returns
returns c =
    let a = c.args in
    cc (cut64 (a.x * a.y) a.self.count (omega arith))
