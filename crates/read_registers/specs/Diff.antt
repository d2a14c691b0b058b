-- Three registers of different lengths: A7.4.2, table A7-10.
--   hw1  1 1 1 U 1 1 1 1 1 D size Vn      hw2  Vd A N 0 M 0 Vm
-- Assumes nothing.
use Rattle.std.specs.Prelude.{ℕ, ◌+◌, ◌*◌, get_or}
use Prim.Native.String.{String}
use lib.Text.{eqt}
use Rattle.laws.specs.Answer.{Answer, refused}
use Rattle.laws.specs.Choice.{choose}
use Rattle.insn.specs.declared.Insn.{Insn}
use Rattle.insn.specs.declared.Mark.{Mark}
use Rattle.insn.specs.declared.Mark.TheVariants.{T1}
use Rattle.tables.specs.Cells.{cell_at}
use Rattle.names.specs.Names.{number_of}
use Rattle.register_tables.specs.Diff.{diff_cells, diff_shapes, diff_marks}
use Rattle.tables.specs.Lengths.{shape_lengths}
use Rattle.tables.specs.declared.DiffShape.{DiffShape}
use Rattle.tables.specs.declared.DiffShape.TheVariants.{Long}
use Rattle.fields.specs.Halfwords.{bit, field}
use Rattle.fields.specs.Registers.{dnum_of, vec_of}
use Rattle.readings.specs.Operands.{three}

-- the reading of a cell's name in a row of that shape and mark: d, n and m are D:Vd, N:Vn and M:Vm
unfoldable pub diff_of : String → DiffShape → Mark → ℕ → ℕ → ℕ → ℕ → Answer Insn
diff_of name shape mark d n m address =
    let quad = shape_lengths shape in
    choose (eqt name "") (refused 3)
    (three (number_of name) mark address (vec_of quad.d d) (vec_of quad.n n) (vec_of quad.m m))

-- the row is U:A
abbrev pub diff_row : ℕ → ℕ → ℕ
diff_row hw1 hw2 = bit 12 hw1 * 16 + field 11 8 hw2

unfoldable pub diff_reading : ℕ → ℕ → ℕ → Answer Insn
diff_reading hw1 hw2 address =
    diff_of (cell_at diff_cells (diff_row hw1 hw2) (field 5 4 hw1)) (get_or diff_shapes (diff_row hw1 hw2) Long) (get_or diff_marks (diff_row hw1 hw2) T1)
    (dnum_of (bit 6 hw1) (field 15 12 hw2))
    (dnum_of (bit 7 hw2) (field 3 0 hw1))
    (dnum_of (bit 5 hw2) (field 3 0 hw2))
    address
