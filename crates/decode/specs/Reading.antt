-- The reading of a pair by edition C of the manual; Editions.antt has it in any edition.
-- Assumes nothing.
use Rattle.std.specs.Prelude.{Bool, not, ℕ, eqb}
use Rattle.laws.specs.Answer.{Answer, refused}
use Rattle.laws.specs.Choice.{choose, both}
use Rattle.insn.specs.declared.Insn.{Insn}
use Rattle.fields.specs.Halfwords.{bit, field}
use Rattle.amounts.specs.Shifts.{is_escape}
use Rattle.decode.specs.declared.Family.{Family}
use Rattle.decode.specs.declared.Family.TheVariants.{ThreeSame, ThreeDifferent, Shift, ModifiedImmediate, NoFamily}
use Rattle.readings.specs.Operands.{is_set}
use Rattle.read_registers.specs.Same3.{same3_reading}
use Rattle.read_registers.specs.Diff.{diff_reading}
use Rattle.read_immediates.specs.Shift.{shift_reading}
use Rattle.read_immediates.specs.Modimm.{modimm_reading}

-- hw1 and ef80 is ef00 or ef80: bits 15..13 and 11..8 are all ones
abbrev pub is_data_processing : ℕ → Bool
is_data_processing hw1 = both (eqb (field 15 13 hw1) 7) (eqb (field 11 8 hw1) 15)

-- the family of a pair, by its fixed bits: document 01, 'Four families'
unfoldable pub family_of : ℕ → ℕ → Family
family_of hw1 hw2 =
    choose (not (is_data_processing hw1)) NoFamily
    (choose (eqb (bit 7 hw1) 0) ThreeSame
    (choose (is_set (bit 4 hw2)) (choose (is_escape (bit 7 hw2) (field 5 0 hw1)) ModifiedImmediate Shift)
    (choose (is_set (bit 6 hw2)) NoFamily
    (choose (eqb (field 5 4 hw1) 3) NoFamily ThreeDifferent))))

unfoldable pub in_family : Family → ℕ → ℕ → ℕ → Answer Insn
in_family ThreeSame hw1 hw2 address = same3_reading hw1 hw2 address
in_family ThreeDifferent hw1 hw2 address = diff_reading hw1 hw2 address
in_family Shift hw1 hw2 address = shift_reading hw1 hw2 address
in_family ModifiedImmediate hw1 hw2 address = modimm_reading hw1 hw2 address
in_family NoFamily hw1 hw2 address = refused 1

-- the record of a pair at the caller's address, or the refusal
unfoldable pub reading : ℕ → ℕ → ℕ → Answer Insn
reading hw1 hw2 address = in_family (family_of hw1 hw2) hw1 hw2 address
