-- Promises beyond the contracts; proofs/Promises.antt proves each under its name.
-- Assumes nothing.
use Rattle.std.specs.Prelude.{◌≡◌, []}
use Rattle.names.specs.Names.{names}
use Rattle.order.specs.Order.{all_cells, first_appearances}

-- the names are the cells of the five tables and vmov, numbered by first appearance
abbrev pub NamesInOrder : Type 0
NamesInOrder = names ≡ first_appearances [] all_cells
