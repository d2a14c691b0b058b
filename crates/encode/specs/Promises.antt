-- A promise beyond the contract; proofs/Promises.antt proves it under its name.
-- Assumes nothing.
use Rattle.std.specs.Prelude.{Bool, true, false, ◌≡◌, ℕ, ◌<◌, ℤ, get_or}
use lib.Text.{eqt}
use Rattle.laws.specs.Answer.{Answer, accepted, refused}
use Rattle.laws.specs.Choice.{choose, both}
use Rattle.insn.specs.declared.Insn.{Insn}
use Rattle.insn.specs.declared.Operand.{Operand}
use Rattle.insn.specs.declared.Operand.TheVariants.{Imm}
use Rattle.names.specs.Names.{name_of}
use Rattle.tables.specs.Cells.{cell_at}
use Rattle.tables.specs.Lengths.{class_lengths}
use Rattle.tables.specs.declared.ShiftClass.{ShiftClass}
use Rattle.tables.specs.declared.ShiftClass.TheVariants.{Right}
use Rattle.immediate_tables.specs.Shift.{shift_cells, shift_classes}
use Rattle.writings.specs.Forms.{is_quad, register_in}
use Rattle.amount_values.specs.Range.{is_outside}
use Rattle.encode.specs.Writing.{writing}

-- whether an answer accepts
abbrev pub is_accepted : Answer ℕ → Bool
is_accepted (accepted n) = true
is_accepted (refused n) = false

-- whether both registers exist and are as long as a row of the class has them
abbrev pub registers_fit : ShiftClass → Operand → Operand → Bool
registers_fit class a b =
    both (is_accepted (register_in (class_lengths class (is_quad a)).d a))
    (is_accepted (register_in (class_lengths class (is_quad a)).m b))

-- a record that is named as a cell of table A7-12, in any row, with a number outside 0 to 64 for its amount:
-- refused with 9 wherever its registers fit the row, whatever the number's low bits are, and else with 8
abbrev pub OutsideRefused : Type 0
OutsideRefused =
    (i : Insn) (row column : ℕ) (v : ℤ) → row < 64 → column < 4
    → name_of i.mnemonic ≡ cell_at shift_cells row column → eqt (cell_at shift_cells row column) "" ≡ false
    → i.count ≡ 3 → i.third ≡ Imm v → is_outside v ≡ true
    → writing i ≡ refused (choose (registers_fit (get_or shift_classes row Right) i.first i.second) 9 8)
