-- The modified immediate op:cmode:imm8 that a name and a value are read from: tables A7-14 and A7-15.
-- Assumes nothing.
use Rattle.std.specs.Prelude.{Bool, false, not, ℕ}
use Prim.Native.String.{String}
use Rattle.std.specs.Float.Ieee.{eq}
use lib.Text.{eqt}
use Rattle.laws.specs.Answer.{Answer, refused}
use Rattle.laws.specs.Choice.{choose, both}
use Rattle.laws.specs.Search.{first_below}
use Rattle.insn.specs.declared.Operand.{Operand}
use Rattle.insn.specs.declared.Operand.TheVariants.{Imm, Float}
use Rattle.insn.specs.Record.{value_or}
use Rattle.tables.specs.Cells.{cell_at}
use Rattle.immediate_tables.specs.Modimm.{modimm}
use Rattle.fields.specs.Halfwords.{bit, field}
use Rattle.immediates.specs.Modified.{modimm_operand, zero_refused}
use Rattle.writings.specs.Numbers.{same_number, or_nine}

-- numbers are compared as numbers and floats as floats, so that a zero or a NaN is no immediate's float
abbrev pub same_value : Operand → Operand → Bool
same_value x y =
    value_or (λ v. value_or (same_number v) (λ b. false) false y)
    (λ a. value_or (λ w. false) (eq a) false y) false x

-- whether op, cmode and imm8 are read as the name and the value
unfoldable pub immediate_reads : String → Operand → ℕ → ℕ → ℕ → Bool
immediate_reads name value op cmode imm8 =
    both (eqt (cell_at modimm op cmode) name)
    (both (not (zero_refused cmode imm8))
    (same_value (modimm_operand op cmode imm8) value))

-- the value as op:cmode:imm8, of which at most one is read so (specs/Promises, ImmediateOnce)
abbrev pub immediate_of : String → Operand → Answer ℕ
immediate_of name value = or_nine (first_below 8192 (λ (t : ℕ). immediate_reads name value (bit 12 t) (field 11 8 t) (field 7 0 t)))

-- VMOV.F32 takes a float, and any other name a number
unfoldable pub immediate_in : String → Operand → Answer ℕ
immediate_in name o =
    value_or (λ v. choose (eqt name "vmov.f32") (refused 8) (immediate_of name (Imm v)))
    (λ x. choose (eqt name "vmov.f32") (immediate_of name (Float x)) (refused 8)) (refused 8) o
