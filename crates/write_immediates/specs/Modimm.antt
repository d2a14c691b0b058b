-- Writing one register and a modified immediate: A7.4.6, tables A7-14 and A7-15.
-- Assumes nothing.
use Rattle.std.specs.Prelude.{Bool, ℕ, eqb}
use Prim.Native.String.{String}
use Rattle.laws.specs.Answer.{Answer, accepted, refused}
use Rattle.laws.specs.Choice.{choose}
use Rattle.insn.specs.declared.Operand.{Operand}
use Rattle.fields.specs.Halfwords.{bit, field, first, second}
use Rattle.immediate_values.specs.Immediates.{immediate_in}
use Rattle.writings.specs.Forms.{Pair, pair, as_bit, is_quad, register_in}

-- the immediate is op:cmode:imm8, and imm8 is i:imm3:imm4; d is D:Vd
--   hw1  1 1 1 i 1 1 1 1 1 D 0 0 0 imm3   hw2  Vd cmode 0 Q op 1 imm4
unfoldable pub modimm_pair : ℕ → Bool → ℕ → Pair
modimm_pair immediate quad d =
    pair
    (first (bit 7 immediate) 1 (bit 4 d) (field 6 4 immediate))
    (second (field 3 0 d) (field 11 8 immediate) 0 (as_bit quad) (bit 12 immediate) 1 (field 3 0 immediate))

abbrev pub modimm_form : Bool → Answer ℕ → Answer ℕ → Answer Pair
modimm_form quad (accepted d) (accepted immediate) = accepted (modimm_pair immediate quad d)
modimm_form quad (accepted d) (refused n) = refused n
modimm_form quad (refused n) y = refused n

unfoldable pub modimm_writing : String → ℕ → Operand → Operand → Answer Pair
modimm_writing name count a b = choose (eqb count 2) (modimm_form (is_quad a) (register_in (is_quad a) a) (immediate_in name b)) (refused 8)
