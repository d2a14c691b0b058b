-- A cell's number has the cell's name: antt computes it.
-- Assumes nothing.
use mathlib.Core.Path.{◌≡◌, refl}
use Prim.Native.Nat.{ℕ, ◌<◌}
use Rattle.laws.proofs.Range.{values, agree2}
use Rattle.names.specs.Names.{names, number_of, name_of}
use Rattle.tables.specs.Cells.{cell_at}
use Rattle.register_tables.specs.Same3.{same3}
use Rattle.register_tables.specs.Diff.{diff_rows, diff_cells}

pub same3-known : (r c : ℕ) → r < 64 → c < 4 → name_of (number_of (cell_at same3 r c)) ≡ cell_at same3 r c
unfolding values same3 names name_of number_of
same3-known = agree2 (λ (r c : ℕ). name_of (number_of (cell_at same3 r c))) (cell_at same3) 64 4 refl

pub diff-known : (r c : ℕ) → r < 32 → c < 4 → name_of (number_of (cell_at diff_cells r c)) ≡ cell_at diff_cells r c
unfolding values diff_rows diff_cells names name_of number_of
diff-known = agree2 (λ (r c : ℕ). name_of (number_of (cell_at diff_cells r c))) (cell_at diff_cells) 32 4 refl
