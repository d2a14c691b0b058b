use Rattle.recipes.proofs.Names.{bif-known}
use Rattle.recipes.proofs.records.join_words.Goals as goal

pub returns : goal.returns
returns c = rw (c.three.ensures, bif-known.numbered)
