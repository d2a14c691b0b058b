-- A cell's number has the cell's name: antt computes it.
-- Assumes nothing.
use mathlib.Core.Path.{◌≡◌, refl}
use Prim.Native.Nat.{ℕ, ◌<◌}
use Rattle.laws.proofs.Range.{values, agree2}
use Rattle.names.specs.Names.{names, number_of, name_of}
use Rattle.tables.specs.Cells.{cell_at}
use Rattle.immediate_tables.specs.Shift.{shift_rows, shift_cells}
use Rattle.immediate_tables.specs.Modimm.{modimm}

pub shift-known : (r c : ℕ) → r < 64 → c < 4 → name_of (number_of (cell_at shift_cells r c)) ≡ cell_at shift_cells r c
unfolding values shift_rows shift_cells names name_of number_of
shift-known = agree2 (λ (r c : ℕ). name_of (number_of (cell_at shift_cells r c))) (cell_at shift_cells) 64 4 refl

pub modimm-known : (r c : ℕ) → r < 2 → c < 16 → name_of (number_of (cell_at modimm r c)) ≡ cell_at modimm r c
unfolding values modimm names name_of number_of
modimm-known = agree2 (λ (r c : ℕ). name_of (number_of (cell_at modimm r c))) (cell_at modimm) 2 16 refl
