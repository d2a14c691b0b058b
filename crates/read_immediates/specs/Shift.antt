-- Two registers and a shift amount: A7.4.4, table A7-12.
--   hw1  1 1 1 U 1 1 1 1 1 D imm6         hw2  Vd A L B M 1 Vm     B is Q where the row has a Q
-- Assumes nothing.
use Rattle.std.specs.Prelude.{Bool, true, false, ℕ, ◌+◌, ◌*◌, eqb, ltb, pos, get_or}
use lib.Text.{eqt}
use Rattle.laws.specs.Answer.{Answer, accepted, refused}
use Rattle.laws.specs.Choice.{choose}
use Rattle.insn.specs.declared.Insn.{Insn}
use Rattle.insn.specs.declared.Mark.TheVariants.{T1}
use Rattle.insn.specs.declared.Operand.{Operand}
use Rattle.insn.specs.declared.Operand.TheVariants.{Imm}
use Rattle.tables.specs.Cells.{cell_at}
use Rattle.names.specs.Names.{number_of}
use Rattle.immediate_tables.specs.Shift.{shift_cells, shift_classes, vmovl}
use Rattle.tables.specs.Lengths.{class_lengths}
use Rattle.tables.specs.declared.ShiftClass.{ShiftClass}
use Rattle.tables.specs.declared.ShiftClass.TheVariants.{Right, Left, Narrow, Long, Convert}
use Rattle.fields.specs.Halfwords.{bit, field}
use Rattle.fields.specs.Registers.{dnum_of, vec_of}
use Rattle.amounts.specs.Shifts.{amount_of, size_code}
use Rattle.readings.specs.Operands.{is_set, two, three}

-- narrowing, lengthening and conversion rows have L clear, and a conversion has imm6 from 32 on
unfoldable pub forbidden : ShiftClass → ℕ → ℕ → Bool
forbidden Right l imm6 = false
forbidden Left l imm6 = false
forbidden Narrow l imm6 = is_set l
forbidden Long l imm6 = is_set l
forbidden Convert l imm6 = choose (is_set l) true (ltb imm6 32)

-- the column: the element size, and for a conversion the first
unfoldable pub column_of : ShiftClass → ℕ → ℕ → ℕ
column_of Right l imm6 = size_code l imm6
column_of Left l imm6 = size_code l imm6
column_of Narrow l imm6 = size_code l imm6
column_of Long l imm6 = size_code l imm6
column_of Convert l imm6 = 0

abbrev pub amount : ℕ → Answer Operand
amount k = accepted (Imm (pos k))

-- a lengthening by 0 is a move
unfoldable pub is_long_by_zero : ShiftClass → ℕ → Bool
is_long_by_zero Right k = false
is_long_by_zero Left k = false
is_long_by_zero Narrow k = false
is_long_by_zero Long k = eqb k 0
is_long_by_zero Convert k = false

-- the operands of a mnemonic in a row of the class: d and m are D:Vd and M:Vm; a move has the mnemonic `moved` and no amount
unfoldable pub shifted : ShiftClass → ℕ → ℕ → Bool → ℕ → ℕ → ℕ → ℕ → Answer Insn
shifted class mnemonic moved q k d m address =
    let quad = class_lengths class q in
    choose (is_long_by_zero class k) (two moved T1 address (vec_of quad.d d) (vec_of quad.m m))
    (three mnemonic T1 address (vec_of quad.d d) (vec_of quad.m m) (amount k))

-- the reading in the row U:A:B of a class
unfoldable pub shift_of : ShiftClass → ℕ → ℕ → Bool → ℕ → ℕ → ℕ → ℕ → ℕ → Answer Insn
shift_of class u row quad l imm6 d m address =
    choose (forbidden class l imm6) (refused 2)
    (choose (eqt (cell_at shift_cells row (column_of class l imm6)) "") (refused 3)
    (shifted class (number_of (cell_at shift_cells row (column_of class l imm6))) (number_of (cell_at vmovl u (column_of class l imm6))) quad
    (amount_of class l imm6) d m address))

abbrev pub shift_row : ℕ → ℕ → ℕ
shift_row hw1 hw2 = bit 12 hw1 * 32 + field 11 8 hw2 * 2 + bit 6 hw2

unfoldable pub shift_reading : ℕ → ℕ → ℕ → Answer Insn
shift_reading hw1 hw2 address =
    shift_of (get_or shift_classes (shift_row hw1 hw2) Right) (bit 12 hw1) (shift_row hw1 hw2) (is_set (bit 6 hw2)) (bit 7 hw2) (field 5 0 hw1)
    (dnum_of (bit 6 hw1) (field 15 12 hw2))
    (dnum_of (bit 5 hw2) (field 3 0 hw2))
    address
