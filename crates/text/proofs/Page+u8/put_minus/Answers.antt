use Rattle.text.specs.Text.{minus}
use Rattle.text.proofs.Writes.{nothing}
use Rattle.text.proofs.Page+u8.put_minus.Goals as goal

pub returns-then-negative : goal.returns-then-negative
unfolding minus
returns-then-negative c =
    rw c.if-negative.true c.put.ensures

pub returns-else-negative : goal.returns-else-negative
unfolding minus
returns-else-negative c =
    rw c.if-negative.false (nothing _)
