-- The promise of specs/Promises.antt: antt computes it.
-- Assumes nothing.
use mathlib.Core.Path.{refl}
use Rattle.names.specs.Names.{names}
use Rattle.tables.specs.Cells.{cells_of}
use Rattle.register_tables.specs.Same3.{same3}
use Rattle.immediate_tables.specs.Shift.{shift_rows, shift_cells, vmovl}
use Rattle.immediate_tables.specs.Modimm.{modimm}
use Rattle.register_tables.specs.Diff.{diff_rows, diff_cells}
use Rattle.order.specs.Order.{all_cells}
use Rattle.order.specs.Promises.{NamesInOrder}

pub names_in_order : NamesInOrder
unfolding same3 shift_rows shift_cells vmovl modimm diff_rows diff_cells cells_of all_cells names
names_in_order = refl
