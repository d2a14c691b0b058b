-- Writing three registers of different lengths: A7.4.2, table A7-10.
-- Assumes nothing.
use Rattle.std.specs.Prelude.{ℕ, ◌+◌, ◌*◌, ◌/◌, eqb, get_or}
use Rattle.laws.specs.Answer.{Answer, accepted, refused, and_then}
use Rattle.laws.specs.Choice.{choose}
use Rattle.insn.specs.declared.Operand.{Operand}
use Rattle.register_tables.specs.Diff.{diff_shapes}
use Rattle.tables.specs.declared.DiffShape.{DiffShape}
use Rattle.tables.specs.declared.DiffShape.TheVariants.{Long}
use Rattle.fields.specs.Halfwords.{bit, field, first, second}
use Rattle.writings.specs.Forms.{Pair, pair, register_in, Three, all_three, numbers}
use Rattle.tables.specs.Lengths.{shape_lengths}

-- the cell is U:A:size; d, n and m are D:Vd, N:Vn and M:Vm
--   hw1  1 1 1 U 1 1 1 1 1 D size Vn      hw2  Vd A N 0 M 0 Vm
unfoldable pub diff_pair : ℕ → ℕ → ℕ → ℕ → Pair
diff_pair cell d n m =
    pair
    (first (bit 6 cell) 1 (bit 4 d) (field 1 0 cell * 16 + field 3 0 n))
    (second (field 3 0 d) (field 5 2 cell) (bit 4 n) 0 (bit 4 m) 0 (field 3 0 m))

abbrev pub diff_form : ℕ → Three → Answer Pair
diff_form cell (numbers d n m) = accepted (diff_pair cell d n m)

unfoldable pub diff_shaped : DiffShape → ℕ → ℕ → Operand → Operand → Operand → Answer Pair
diff_shaped shape cell count a b c =
    choose (eqb count 3)
    (and_then (all_three (register_in (shape_lengths shape).d a) (register_in (shape_lengths shape).n b) (register_in (shape_lengths shape).m c)) (diff_form cell))
    (refused 8)

abbrev pub diff_writing : ℕ → ℕ → Operand → Operand → Operand → Answer Pair
diff_writing cell count a b c = diff_shaped (get_or diff_shapes (cell / 4) Long) cell count a b c
