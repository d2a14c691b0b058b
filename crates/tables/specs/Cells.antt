-- How the manual's tables stand here: a row of cells to a line, each cell its mnemonic's spelling, "" where the manual leaves it UNDEFINED.
-- Assumes nothing.
use Rattle.std.specs.Prelude.{List, [], ◌∷◌, ◌++◌, ℕ, get_or, ltb, Option, Some, None}
use Prim.Native.String.{String}
use Rattle.laws.specs.Choice.{choose}
use Rattle.names.specs.Names.{blank}

-- a row of four cells, for the sizes 0 to 3
abbrev pub by_size : String → String → String → String → List String
by_size a b c d = a ∷ b ∷ c ∷ d ∷ []

-- the cell of a table at a row and a column, counted from 0; past the table it is blank
abbrev pub cell_at : List (List String) → ℕ → ℕ → String
cell_at table r c = get_or (get_or table r []) c ""

-- the cells of a table, one row after the other
unfoldable pub cells_of : List (List String) → List String
cells_of [] = []
cells_of (r ∷ rs) = r ++ cells_of rs

-- the number of a cell's mnemonic; of a blank cell, one that is no mnemonic's
abbrev pub cell_number : Option ℕ → ℕ
cell_number (Some m) = m
cell_number None = blank

-- the number that a cell of the code's tables stands for: 346 and above are no mnemonic's
abbrev pub read_number : ℕ → ℕ
read_number n = choose (ltb n 346) n blank
