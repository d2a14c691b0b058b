-- The place L:imm6 that a shift amount is read from: table A7-12.
-- Assumes nothing.
use Rattle.std.specs.Prelude.{Bool, not, ℕ, eqb, ℤ, pos}
use Rattle.laws.specs.Answer.{Answer, refused}
use Rattle.laws.specs.Search.{first_below}
use Rattle.insn.specs.declared.Operand.{Operand}
use Rattle.insn.specs.Record.{value_or}
use Rattle.tables.specs.declared.ShiftClass.{ShiftClass}
use Rattle.fields.specs.Halfwords.{bit, field}
use Rattle.amounts.specs.Shifts.{is_escape, amount_of}
use Rattle.laws.specs.Choice.{both}
use Rattle.read_immediates.specs.Shift.{forbidden, column_of}
use Rattle.writings.specs.Numbers.{same_number, or_nine}

-- whether L and imm6 are read, in a row of the class, as the column and the amount v
unfoldable pub amount_reads : ShiftClass → ℕ → ℤ → ℕ → ℕ → Bool
amount_reads class column v l imm6 =
    both (not (forbidden class l imm6))
    (both (not (is_escape l imm6))
    (both (eqb (column_of class l imm6) column)
    (same_number (pos (amount_of class l imm6)) v)))

-- the amount's operand as L:imm6, of which at most one is read so (specs/Promises, AmountOnce)
unfoldable pub amount_in : ShiftClass → ℕ → Operand → Answer ℕ
amount_in class column o =
    value_or (λ v. or_nine (first_below 128 (λ (t : ℕ). amount_reads class column v (bit 6 t) (field 5 0 t))))
    (λ x. refused 8) (refused 8) o
