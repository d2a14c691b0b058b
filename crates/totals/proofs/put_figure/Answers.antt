use Rattle.text.proofs.Writes.{then}
use Rattle.totals.proofs.put_figure.Goals as goal

pub returns : goal.returns
returns c =
    then c.put_text.ensures c.put_five.ensures
