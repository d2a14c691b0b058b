use Rattle.std.proofs.Common.{◌*◌, arith}
use Rattle.arithmetic.proofs.Numbers.{add-cut64}
use Rattle.arithmetic.proofs.arith.Bits.product_added.Goals as goal

pub returns : goal.returns
returns c =
    let a = c.args in
    cc (add-cut64 a.d (a.x * a.y) a.self.count (omega arith))
