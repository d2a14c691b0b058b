use mathlib.Core.Path.{sym}
use Prim.Native.Nat.{◌/◌}
use native.Mathlib.Omega.{arith}
use Rattle.text.proofs.Decimal.{decimal-one, decimal-hundred, decimal-myriad, within}
use Rattle.text.proofs.Writes.{then, respell}
use Rattle.text.proofs.Page+u8.put_five.Goals as goal

pub returns-then-n-lt10000 : goal.returns-then-n-lt10000
returns-then-n-lt10000 c =
    let n = c.args.n in
    respell (sym (decimal-hundred n (omega arith))) (within 4 n (omega arith)) (then c.put_small-then-n-lt10000.ensures c.put_two.ensures)

pub returns-else-n-lt10000 : goal.returns-else-n-lt10000
returns-else-n-lt10000 c =
    let n = c.args.n in
    let e = rw (decimal-one (n / 10000) (omega arith)) at (decimal-myriad n (omega arith)) in
    respell (sym e) (within 4 n (omega arith)) (then c.put.ensures c.put_four.ensures)
