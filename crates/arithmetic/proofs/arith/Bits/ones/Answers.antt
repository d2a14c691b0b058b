use Rattle.std.proofs.Common.{arith}
use Rattle.arithmetic.proofs.Numbers.{ones_shr}
use Rattle.arithmetic.proofs.arith.Bits.ones.Goals as goal

pub returns : goal.returns
returns c =
    ones_shr c.args.self.count (omega arith)
