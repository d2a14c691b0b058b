use mir.Facts.{to_z-of_z}
use Rattle.text.proofs.Signs.{signed-text, signed-short}
use Rattle.text.proofs.Writes.{then, respell}
use Rattle.text.proofs.Page+u8.put_signed.Goals as goal

pub returns : goal.returns
returns c =
    let f = c.ranges.v in
    let w = rw c.unsigned_abs.ensures.value at (then c.put_minus.ensures c.put_decimal.ensures) in
    respell (signed-text c.args.v) (signed-short f) (rw (to_z-of_z f) at w)
