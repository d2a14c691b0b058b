-- The code's table A7-12: each row has the manual's class, and the numbers of its cells.
-- Assumes nothing.
use mathlib.Core.List.{List, [], ◌∷◌, map}
use mathlib.Core.Path.{◌≡◌, sym, ap, ◌∙◌}
use Prim.Native.Nat.{ℕ, ◌<◌, ◌≤◌}
use Prim.Native.String.{String}
use lib.ListN.{get_or, get_or-eq_default}
use Rattle.laws.proofs.Tables.{mapped}
use Rattle.laws.proofs.Tests.{sides}
use Rattle.names.specs.Names.{number_of, blank}
use Rattle.tables.specs.Cells.{cell_at, read_number}
use Rattle.tables.specs.declared.ShiftClass.{ShiftClass}
use Rattle.tables.specs.declared.ShiftClass.TheVariants.{Right}
use Rattle.tables.proofs.Cells.{past}
use Rattle.tables.proofs.Listed.{row_tabled, blanks}
use Rattle.immediate_tables.specs.Shift.{ShiftRow, shift_rows, shift_cells, shift_classes}

abbrev pub Row : Type 0
Row = ShiftClass × List ℕ

abbrev row_of : ShiftRow → Row
row_of r = (r.class, map number_of r.cells)

unfoldable pub rows : List Row
rows = map row_of shift_rows

-- past the table
abbrev pub none : Row
none = (Right, blank ∷ blank ∷ blank ∷ blank ∷ [])

abbrev blank_row : ShiftRow
blank_row = record { class = Right; cells = [] }

module _ (k : ℕ) where
  its-row : k < 64 → get_or rows k none ≡ row_of (get_or shift_rows k blank_row)
  unfolding rows shift_rows
  its-row h = mapped row_of shift_rows blank_row none k h

  no-row : 64 ≤ k → get_or rows k none ≡ none
  unfolding rows shift_rows
  no-row h = get_or-eq_default rows none h

  pub its-class : (get_or rows k none).0 ≡ get_or shift_classes k Right
  unfolding shift_rows shift_classes
  its-class =
      sides 64 k
      (λ h. ap (λ (r : Row). r.0) (its-row h) ∙ sym (mapped (λ (r : ShiftRow). r.class) shift_rows blank_row Right k h))
      (λ h. ap (λ (r : Row). r.0) (no-row h) ∙ sym (get_or-eq_default shift_classes Right h))

  pub its-cells : (j : ℕ) → read_number (get_or (get_or rows k none).1 j blank) ≡ number_of (cell_at shift_cells k j)
  unfolding shift_rows shift_cells
  its-cells j =
      sides 64 k
      (λ h. ap (λ (r : Row). read_number (get_or r.1 j blank)) (its-row h)
      ∙ ap (λ (l : List String). read_number (get_or (map number_of l) j blank)) (sym (mapped (λ (r : ShiftRow). r.cells) shift_rows blank_row [] k h))
      ∙ row_tabled shift_cells k j)
      (λ h. ap (λ (r : Row). read_number (get_or r.1 j blank)) (no-row h) ∙ blanks j ∙ past shift_cells k j h)
