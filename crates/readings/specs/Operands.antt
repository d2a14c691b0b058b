-- The record of a mnemonic and its operands, which a refused operand refuses.
-- Assumes nothing.
use Rattle.std.specs.Prelude.{Bool, ℕ, eqb}
use Rattle.laws.specs.Answer.{Answer, accepted, refused}
use Rattle.insn.specs.declared.Insn.{Insn}
use Rattle.insn.specs.declared.Mark.{Mark}
use Rattle.insn.specs.declared.Operand.{Operand}
use Rattle.insn.specs.declared.Operand.TheVariants.{Absent}

-- a bit that is set
abbrev pub is_set : ℕ → Bool
is_set b = eqb b 1

abbrev pub insn : ℕ → Mark → ℕ → ℕ → Operand → Operand → Operand → Insn
insn mnemonic mark address count a b c =
    record { mnemonic = mnemonic; mark = mark; address = address; count = count; first = a; second = b; third = c }

-- a mnemonic's number and two operands; the third place is absent
unfoldable pub two : ℕ → Mark → ℕ → Answer Operand → Answer Operand → Answer Insn
two mnemonic mark address (accepted a) (accepted b) = accepted (insn mnemonic mark address 2 a b Absent)
two mnemonic mark address (accepted a) (refused n) = refused n
two mnemonic mark address (refused n) y = refused n

-- a mnemonic's number and three operands
unfoldable pub three : ℕ → Mark → ℕ → Answer Operand → Answer Operand → Answer Operand → Answer Insn
three mnemonic mark address (accepted a) (accepted b) (accepted c) = accepted (insn mnemonic mark address 3 a b c)
three mnemonic mark address (accepted a) (accepted b) (refused n) = refused n
three mnemonic mark address (accepted a) (refused n) z = refused n
three mnemonic mark address (refused n) y z = refused n
