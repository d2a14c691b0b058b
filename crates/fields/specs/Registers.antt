-- Register numbers: A7.3.
-- Assumes nothing.
use Rattle.std.specs.Prelude.{Bool, true, false, ℕ, ◌+◌, ◌*◌, ◌/◌, ◌%◌, eqb, ltb}
use Rattle.laws.specs.Answer.{Answer, accepted, refused}
use Rattle.laws.specs.Choice.{choose}
use Rattle.insn.specs.declared.Operand.{Operand}
use Rattle.insn.specs.declared.Operand.TheVariants.{D, Q, S, Imm, Float, Other, Absent}

-- D:Vd, N:Vn or M:Vm: one bit above four
abbrev pub dnum_of : ℕ → ℕ → ℕ
dnum_of hi lo = hi % 2 * 16 + lo % 16

-- the register of a number: Qn is D(2n) and D(2n+1), so that no quadword has an odd number
unfoldable pub vec_of : Bool → ℕ → Answer Operand
vec_of quad d = choose quad (choose (eqb (d % 2) 0) (accepted (Q (d / 2))) (refused 6)) (accepted (D d))

-- whether a register is a quadword, and its number
pub data Bits : Type 0 where
  bits : Bool → ℕ → Bits

-- the inverse of `vec_of`: D0 to D31 and Q0 to Q15
unfoldable pub vec_bits : Operand → Answer Bits
vec_bits (D n) = choose (ltb n 32) (accepted (bits false n)) (refused 8)
vec_bits (Q n) = choose (ltb n 16) (accepted (bits true (2 * n))) (refused 8)
vec_bits (S n) = refused 8
vec_bits (Imm v) = refused 8
vec_bits (Float x) = refused 8
vec_bits Other = refused 8
vec_bits Absent = refused 8
