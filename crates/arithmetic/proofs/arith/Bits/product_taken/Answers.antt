use Rattle.std.proofs.Common.{◌*◌, arith}
use Rattle.arithmetic.proofs.Signs.{minus-cut64}
use Rattle.arithmetic.proofs.arith.Bits.product_taken.Goals as goal

pub returns : goal.returns
returns c =
    let a = c.args in
    cc (minus-cut64 a.self.count a.d (a.x * a.y) (omega arith))
