use Rattle.std.proofs.Common.{◌*◌, ◌^◌, sym, arith}
use Rattle.arithmetic.proofs.Numbers.{shl-out, cut64}
use Rattle.arithmetic.proofs.arith.Bits.left.Goals as goal

pub returns-then-k-lt64 : goal.returns-then-k-lt64
returns-then-k-lt64 c =
    let a = c.args in
    cc (cut64 (a.x * 2 ^ a.k) a.self.count (omega arith))

pub returns-else-k-lt64 : goal.returns-else-k-lt64
returns-else-k-lt64 c =
    let a = c.args in
    sym (shl-out a.x a.self.count a.k (omega arith))
