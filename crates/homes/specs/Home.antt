-- Where a mnemonic is written: the table that has its name, and the name's first cell there.
-- Assumes nothing.
use Rattle.std.specs.Prelude.{Bool, true, false, List, [], ◌∷◌, ℕ, suc}
use Prim.Native.String.{String}
use lib.Text.{eqt}
use Rattle.laws.specs.Choice.{choose}
use Rattle.laws.specs.Search.{Found, at, none}
use Rattle.tables.specs.Cells.{cells_of}
use Rattle.register_tables.specs.Same3.{same3}
use Rattle.immediate_tables.specs.Shift.{shift_cells, vmovl}
use Rattle.immediate_tables.specs.Modimm.{modimm}
use Rattle.register_tables.specs.Diff.{diff_cells}
use Rattle.homes.specs.declared.Home.{Home}
use Rattle.homes.specs.declared.Home.TheVariants.{Same3, Shift, Vmovl, Modimm, Diff, Vmov, Nowhere}

-- the place of the first of some cells that has a name; the places are counted from n
abbrev pub cell_from : String → ℕ → List String → Found
cell_from name n [] = none
cell_from name n (x ∷ xs) = let rest = cell_from name (suc n) xs in choose (eqt x name) (at n) rest

-- the place of a name in a table, row by row: in one of four columns, place k is the cell of row k / 4 and column k % 4
unfoldable pub place_in : List (List String) → String → Found
place_in table name = cell_from name 0 (cells_of table)

-- the place that was found, else what is tried next
abbrev pub or_else : Found → (ℕ → Home) → Home → Home
or_else (at k) found next = found k
or_else none found next = next

-- the home of a name of neither A7-9 nor A7-12
unfoldable pub other_home : String → Home
other_home name =
    let other = choose (eqt name "vmov") Vmov Nowhere in
    let different = or_else (place_in diff_cells name) Diff other in
    let immediate = or_else (place_in modimm name) Modimm different in
    or_else (place_in vmovl name) Vmovl immediate

-- from the places in A7-9 and in A7-12 and the home elsewhere: VQSHL stands in both tables, and whether the third operand is a number decides
abbrev pub home_by : Bool → Found → Found → Home → Home
home_by true same shift other = or_else shift Shift (or_else same Same3 other)
home_by false same shift other = or_else same Same3 (or_else shift Shift other)

-- the home of a mnemonic, by its name and whether its third operand is a number
unfoldable pub home_of : String → Bool → Home
home_of name number =
    choose (eqt name "") Nowhere
    (home_by number (place_in same3 name) (place_in shift_cells name) (other_home name))
