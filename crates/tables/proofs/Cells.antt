-- The cells of the tables by one number, and what stands past a table's end.
-- Assumes nothing.
use mathlib.Core.Path.{◌≡◌, refl, sym, ap, ◌∙◌}
use mathlib.Core.List.{List, []}
use Prim.Native.Nat.{ℕ, ◌+◌, ◌*◌, ◌/◌, ◌%◌, ◌<◌, ◌≤◌}
use Prim.Native.String.{String}
use lib.Arith.{digits_div, digits_mod}
use lib.ListN.{length, get_or, get_or-eq_default}
use Rattle.names.specs.Names.{names, number_of, blank}
use Rattle.tables.specs.Cells.{cell_at}

-- the cell at a place of a table of four columns
abbrev pub cell4 : List (List String) → ℕ → String
cell4 table k = cell_at table (k / 4) (k % 4)

-- and of one of sixteen
abbrev pub cell16 : List (List String) → ℕ → String
cell16 table k = cell_at table (k / 16) (k % 16)

-- a cell by its row and column in one number
pub flat-cell : (table : List (List String)) (w r c : ℕ) → c < w → cell_at table ((r * w + c) / w) ((r * w + c) % w) ≡ cell_at table r c
flat-cell table w r c h = rw (digits_div r h, digits_mod r h)

pub blank-number : number_of "" ≡ blank
unfolding names number_of
blank-number = refl

-- a row past the table is blank
pub past : (table : List (List String)) (r c : ℕ) → length table ≤ r → blank ≡ number_of (cell_at table r c)
past table r c h =
    sym (ap (λ (l : List String). number_of (get_or l c "")) (get_or-eq_default table [] {n = r} h) ∙ blank-number)
