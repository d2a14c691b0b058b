use Rattle.recipes.proofs.Names.{orn-known}
use Rattle.recipes.proofs.records.invert.Goals as goal

pub returns : goal.returns
returns c = rw (c.rows.ensures, orn-known.numbered)
