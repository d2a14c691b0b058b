use Rattle.recipes.proofs.Names.{copy-known}
use Rattle.recipes.proofs.records.copy.Goals as goal

pub returns : goal.returns
returns c = rw (c.two.ensures, copy-known.numbered)
