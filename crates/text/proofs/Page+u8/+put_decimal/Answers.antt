use mathlib.Core.Path.{sym}
use native.Mathlib.Omega.{arith}
use Rattle.text.proofs.Decimal.{decimal-myriad, twenty}
use Rattle.text.proofs.Writes.{then, respell}
use Rattle.text.proofs.Page+u8.+put_decimal.Goals as goal

pub returns-else-n-lt100000 : goal.returns-else-n-lt100000
returns-else-n-lt100000 t c =
    respell (sym (decimal-myriad c.args.n (omega arith))) (twenty c.args.n c.ranges.n.fits)
    (then c.put_decimal.ensures c.put_four.ensures)
