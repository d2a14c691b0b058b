-- Three registers of the same length: A7.4.1, table A7-9.
--   hw1  1 1 1 U 1 1 1 1 0 D size Vn      hw2  Vd opc N Q M B Vm
-- Assumes nothing.
use Rattle.std.specs.Prelude.{Bool, ℕ, ◌+◌, ◌*◌, eqb}
use Prim.Native.String.{String}
use lib.Text.{eqt}
use Rattle.laws.specs.Answer.{Answer, refused}
use Rattle.laws.specs.Choice.{choose, both}
use Rattle.insn.specs.declared.Insn.{Insn}
use Rattle.insn.specs.declared.Mark.TheVariants.{T1}
use Rattle.tables.specs.Cells.{cell_at}
use Rattle.names.specs.Names.{number_of, pairwise}
use Rattle.register_tables.specs.Same3.{same3}
use Rattle.fields.specs.Halfwords.{bit, field}
use Rattle.fields.specs.Registers.{dnum_of, vec_of}
use Rattle.readings.specs.Operands.{is_set, two, three}

-- VSHL, VRSHL, VQSHL and VQRSHL by register, opc 4 and 5, name the register that is shifted first
abbrev pub shifts_by_register : ℕ → Bool
shifts_by_register opc = eqb (field 3 1 opc) 2

-- the reading of a cell's name: d, n and m are D:Vd, N:Vn and M:Vm
unfoldable pub same3_of : String → Bool → ℕ → ℕ → ℕ → ℕ → ℕ → Answer Insn
same3_of name quad opc d n m address =
    choose (eqt name "") (refused 3)
    (choose (both quad (pairwise name)) (refused 5)
    (choose (both (eqt name "vorr") (eqb n m)) (two (number_of "vmov") T1 address (vec_of quad d) (vec_of quad m))
    (choose (shifts_by_register opc) (three (number_of name) T1 address (vec_of quad d) (vec_of quad m) (vec_of quad n))
    (three (number_of name) T1 address (vec_of quad d) (vec_of quad n) (vec_of quad m)))))

-- the cell's row is U:opc:B, its column size
abbrev pub same3_name : ℕ → ℕ → String
same3_name hw1 hw2 = cell_at same3 (bit 12 hw1 * 32 + field 11 8 hw2 * 2 + bit 4 hw2) (field 5 4 hw1)

unfoldable pub same3_reading : ℕ → ℕ → ℕ → Answer Insn
same3_reading hw1 hw2 address =
    same3_of (same3_name hw1 hw2) (is_set (bit 6 hw2)) (field 11 8 hw2)
    (dnum_of (bit 6 hw1) (field 15 12 hw2))
    (dnum_of (bit 7 hw2) (field 3 0 hw1))
    (dnum_of (bit 5 hw2) (field 3 0 hw2))
    address
