-- One register and a modified immediate: A7.4.6, tables A7-14 and A7-15.
--   hw1  1 1 1 i 1 1 1 1 1 D 0 0 0 imm3   hw2  Vd cmode 0 Q op 1 imm4
-- Assumes nothing.
use Rattle.std.specs.Prelude.{Bool, ℕ, ◌+◌, ◌*◌}
use lib.Text.{eqt}
use Rattle.laws.specs.Answer.{Answer, accepted, refused}
use Rattle.laws.specs.Choice.{choose}
use Rattle.insn.specs.declared.Insn.{Insn}
use Rattle.insn.specs.declared.Mark.TheVariants.{T1}
use Rattle.tables.specs.Cells.{cell_at}
use Rattle.names.specs.Names.{number_of}
use Rattle.immediate_tables.specs.Modimm.{modimm}
use Rattle.fields.specs.Halfwords.{bit, field}
use Rattle.fields.specs.Registers.{dnum_of, vec_of}
use Rattle.immediates.specs.Modified.{modimm_operand, zero_refused}
use Rattle.readings.specs.Operands.{is_set, two}

-- the reading of the cell op:cmode with imm8: d is D:Vd
unfoldable pub modimm_of : ℕ → ℕ → ℕ → Bool → ℕ → ℕ → Answer Insn
modimm_of op cmode imm8 quad d address =
    choose (eqt (cell_at modimm op cmode) "") (refused 3)
    (choose (zero_refused cmode imm8) (refused 4)
    (two (number_of (cell_at modimm op cmode)) T1 address (vec_of quad d) (accepted (modimm_operand op cmode imm8))))

-- imm8 is i:imm3:imm4
abbrev pub imm8_of : ℕ → ℕ → ℕ
imm8_of hw1 hw2 = bit 12 hw1 * 128 + field 2 0 hw1 * 16 + field 3 0 hw2

unfoldable pub modimm_reading : ℕ → ℕ → ℕ → Answer Insn
modimm_reading hw1 hw2 address =
    modimm_of (bit 5 hw2) (field 11 8 hw2) (imm8_of hw1 hw2) (is_set (bit 6 hw2)) (dnum_of (bit 6 hw1) (field 15 12 hw2)) address
