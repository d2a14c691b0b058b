-- The constant of a modified-immediate pair: what the machine uses is AdvSIMDExpandImm's pattern.
-- Assumes nothing.
use Rattle.std.specs.Prelude.{Bool, ◌≡◌, ℕ}
use Rattle.laws.specs.Answer.{accepted}
use Rattle.insn.specs.declared.Insn.{Insn}
use Rattle.tables.specs.Cells.{cell_at}
use Rattle.immediate_tables.specs.Modimm.{modimm}
use Rattle.fields.specs.Halfwords.{bit, field}
use Rattle.fields.specs.Registers.{dnum_of}
use Rattle.immediates.specs.Modified.{expand_imm}
use Rattle.read_immediates.specs.Modimm.{imm8_of}
use Rattle.readings.specs.Operands.{is_set}
use Rattle.decode.specs.Reading.{reading, family_of}
use Rattle.decode.specs.declared.Family.TheVariants.{ModifiedImmediate}
use Rattle.operations.specs.declared.ConstantOp.{ConstantOp}
use Rattle.operations.specs.declared.ConstantOp.TheVariants.{Mov}
use Rattle.operations.specs.declared.Operation.TheVariants.{Constant}
use Rattle.forms.specs.declared.Form.{Form}
use Rattle.forms.specs.declared.Form.TheVariants as form
use Rattle.forms.specs.Forms.{form_of}
use Rattle.meanings.specs.Meaning.{act, registers, meaning_of}

-- what a form does with a constant; a float's sets it, and the forms of other families have none
abbrev pub op_in : Form → ConstantOp
op_in (form.Number op w) = op
op_in form.Float = Mov
op_in (form.Lanes op w) = Mov
op_in (form.Bits op) = Mov
op_in form.Copy = Mov
op_in (form.Shift way w) = Mov
op_in (form.Double op w) = Mov
op_in (form.Extend s w) = Mov
op_in form.Nothing = Mov

-- what the cell op:cmode of table A7-14 does with its constant, by its name
abbrev pub op_at : ℕ → ℕ → ConstantOp
op_at op cmode = op_in (form_of (cell_at modimm op cmode))

-- a record of that cell with imm8: its meaning has the expanded pattern, which vmvn and vbic turn over themselves, and the register d for target and sources
pub record Expands (op cmode imm8 : ℕ) (quad : Bool) (d : ℕ) (i : Insn) : Type 0 where
  pub pattern : ℕ
  pub expanded : expand_imm op cmode imm8 ≡ accepted pattern
  pub meant : meaning_of i ≡ accepted (act (Constant (op_at op cmode) pattern) (registers quad d d d))

-- every modified-immediate pair that is accepted
abbrev pub ConstantExpands : Type 0
ConstantExpands =
    (hw1 hw2 address : ℕ) (i : Insn) → family_of hw1 hw2 ≡ ModifiedImmediate → reading hw1 hw2 address ≡ accepted i
    → Expands (bit 5 hw2) (field 11 8 hw2) (imm8_of hw1 hw2) (is_set (bit 6 hw2)) (dnum_of (bit 6 hw1) (field 15 12 hw2)) i
