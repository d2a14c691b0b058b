use Rattle.text.specs.Text.{hex4}
use Rattle.text.proofs.Writes.{then}
use Rattle.text.proofs.Page+u8.put_halfword.Goals as goal

pub returns : goal.returns
unfolding hex4
returns c =
    rw (← c.hex_digit.ensures, ← c.hex_digit-2.ensures, ← c.hex_digit-3.ensures, ← c.hex_digit-4.ensures)
    (then c.put.ensures c.put_word.ensures)
