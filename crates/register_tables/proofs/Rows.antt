-- The code's table A7-10: each row has the manual's shape and encoding, and the numbers of its cells.
-- Assumes nothing.
use mathlib.Core.List.{List, [], ◌∷◌, map}
use mathlib.Core.Path.{◌≡◌, sym, ap, ◌∙◌}
use Prim.Native.Nat.{ℕ, ◌<◌, ◌≤◌}
use Prim.Native.String.{String}
use lib.ListN.{get_or, get_or-eq_default}
use Rattle.laws.proofs.Tables.{mapped}
use Rattle.laws.proofs.Tests.{sides}
use Rattle.names.specs.Names.{number_of, blank}
use Rattle.insn.specs.declared.Mark.{Mark}
use Rattle.insn.specs.declared.Mark.TheVariants.{T1}
use Rattle.tables.specs.Cells.{cell_at, read_number}
use Rattle.tables.specs.declared.DiffShape.{DiffShape}
use Rattle.tables.specs.declared.DiffShape.TheVariants.{Long}
use Rattle.tables.proofs.Cells.{past}
use Rattle.tables.proofs.Listed.{row_tabled, blanks}
use Rattle.register_tables.specs.Diff.{DiffRow, diff_rows, diff_cells, diff_shapes, diff_marks}

abbrev pub Row : Type 0
Row = DiffShape × Mark × List ℕ

abbrev row_of : DiffRow → Row
row_of r = (r.shape, r.mark, map number_of r.cells)

unfoldable pub rows : List Row
rows = map row_of diff_rows

-- past the table
abbrev pub none : Row
none = (Long, T1, blank ∷ blank ∷ blank ∷ blank ∷ [])

abbrev blank_row : DiffRow
blank_row = record { shape = Long; mark = T1; cells = [] }

module _ (k : ℕ) where
  its-row : k < 32 → get_or rows k none ≡ row_of (get_or diff_rows k blank_row)
  unfolding rows diff_rows
  its-row h = mapped row_of diff_rows blank_row none k h

  no-row : 32 ≤ k → get_or rows k none ≡ none
  unfolding rows diff_rows
  no-row h = get_or-eq_default rows none h

  pub its-shape : (get_or rows k none).0 ≡ get_or diff_shapes k Long
  unfolding diff_rows diff_shapes
  its-shape =
      sides 32 k
      (λ h. ap (λ (r : Row). r.0) (its-row h) ∙ sym (mapped (λ (r : DiffRow). r.shape) diff_rows blank_row Long k h))
      (λ h. ap (λ (r : Row). r.0) (no-row h) ∙ sym (get_or-eq_default diff_shapes Long h))

  pub its-mark : (get_or rows k none).1 ≡ get_or diff_marks k T1
  unfolding diff_rows diff_marks
  its-mark =
      sides 32 k
      (λ h. ap (λ (r : Row). r.1) (its-row h) ∙ sym (mapped (λ (r : DiffRow). r.mark) diff_rows blank_row T1 k h))
      (λ h. ap (λ (r : Row). r.1) (no-row h) ∙ sym (get_or-eq_default diff_marks T1 h))

  pub its-cells : (j : ℕ) → read_number (get_or (get_or rows k none).2 j blank) ≡ number_of (cell_at diff_cells k j)
  unfolding diff_rows diff_cells
  its-cells j =
      sides 32 k
      (λ h. ap (λ (r : Row). read_number (get_or r.2 j blank)) (its-row h)
      ∙ ap (λ (l : List String). read_number (get_or (map number_of l) j blank)) (sym (mapped (λ (r : DiffRow). r.cells) diff_rows blank_row [] k h))
      ∙ row_tabled diff_cells k j)
      (λ h. ap (λ (r : Row). read_number (get_or r.2 j blank)) (no-row h) ∙ blanks j ∙ past diff_cells k j h)
