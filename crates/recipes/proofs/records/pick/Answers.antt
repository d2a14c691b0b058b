use Rattle.recipes.proofs.Names.{bsl-known}
use Rattle.recipes.proofs.records.pick.Goals as goal

pub returns : goal.returns
returns c = rw (c.rows.ensures, bsl-known.numbered)
