-- The order of the mnemonics: that in which the tables have them first.
-- Assumes nothing.
use Rattle.std.specs.Prelude.{List, [], ◌∷◌, ◌++◌, reverse}
use Prim.Native.String.{String}
use lib.Text.{eqt}
use Rattle.laws.specs.Choice.{choose}
use Rattle.names.specs.Names.{member}
use Rattle.tables.specs.Cells.{cells_of}
use Rattle.register_tables.specs.Same3.{same3}
use Rattle.immediate_tables.specs.Shift.{shift_cells, vmovl}
use Rattle.immediate_tables.specs.Modimm.{modimm}
use Rattle.register_tables.specs.Diff.{diff_cells}

-- every cell, table by table, and the one name that stands in none
unfoldable pub all_cells : List String
all_cells = cells_of same3 ++ (cells_of shift_cells ++ (cells_of vmovl ++ (cells_of modimm ++ (cells_of diff_cells ++ ("vmov" ∷ [])))))

-- the texts in the order of their first appearance, blanks left out; `seen` has the latest first
abbrev pub first_appearances : List String → List String → List String
first_appearances seen [] = reverse seen
first_appearances seen (x ∷ xs) = first_appearances (choose (eqt x "") seen (choose (member x seen) seen (x ∷ seen))) xs
