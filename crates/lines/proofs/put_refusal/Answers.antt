use Rattle.names.specs.Names.{codes}
use Rattle.lines.specs.Listing.{reading_text}
use Rattle.text.proofs.Writes.{then}
use Rattle.lines.proofs.put_refusal.Goals as goal

pub returns : goal.returns
unfolding reading_text codes
returns c =
    rw (← c.from.ensures) (then (then c.put_word.ensures c.put_word-2.ensures) c.put_five.ensures)
