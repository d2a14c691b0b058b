-- What a reading with operands is made of.
-- Assumes nothing.
use mathlib.Core.Path.{◌≡◌, refl}
use Prim.Native.Nat.{ℕ}
use Rattle.laws.specs.Answer.{Answer, accepted, refused}
use Rattle.laws.proofs.Never.{never}
use Rattle.insn.specs.declared.Insn.{Insn}
use Rattle.insn.specs.declared.Mark.{Mark}
use Rattle.insn.specs.declared.Operand.{Operand}
use Rattle.insn.specs.declared.Operand.TheVariants.{Absent}
use Rattle.readings.specs.Operands.{insn, two, three}

-- of three operands, and of two
pub record Operands (x y z : Answer Operand) (i : Insn) (mnemonic : ℕ) (mark : Mark) (address : ℕ) : Type 0 where
  pub a : Operand
  pub b : Operand
  pub c : Operand
  pub first : x ≡ accepted a
  pub second : y ≡ accepted b
  pub third : z ≡ accepted c
  pub is : insn mnemonic mark address 3 a b c ≡ i

pub operands : (mnemonic : ℕ) (mark : Mark) (address : ℕ) (x y z : Answer Operand) (i : Insn)
    → three mnemonic mark address x y z ≡ accepted i → Operands x y z i mnemonic mark address
unfolding three
operands mnemonic mark address (accepted a) (accepted b) (accepted c) i e = record { a = a; b = b; c = c; first = refl; second = refl; third = refl; is = cc }
operands mnemonic mark address (accepted a) (accepted b) (refused n) i e = never (cc)
operands mnemonic mark address (accepted a) (refused n) z i e = never (cc)
operands mnemonic mark address (refused n) y z i e = never (cc)

pub record TwoOperands (x y : Answer Operand) (i : Insn) (mnemonic : ℕ) (mark : Mark) (address : ℕ) : Type 0 where
  pub a : Operand
  pub b : Operand
  pub first : x ≡ accepted a
  pub second : y ≡ accepted b
  pub is : insn mnemonic mark address 2 a b Absent ≡ i

pub two_operands : (mnemonic : ℕ) (mark : Mark) (address : ℕ) (x y : Answer Operand) (i : Insn)
    → two mnemonic mark address x y ≡ accepted i → TwoOperands x y i mnemonic mark address
unfolding two
two_operands mnemonic mark address (accepted a) (accepted b) i e = record { a = a; b = b; first = refl; second = refl; is = cc }
two_operands mnemonic mark address (accepted a) (refused n) i e = never (cc)
two_operands mnemonic mark address (refused n) y i e = never (cc)
