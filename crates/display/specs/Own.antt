-- For the contracts of this crate's own functions alone: which operands are registers.
-- Assumes nothing.
use Rattle.std.specs.Prelude.{Bool, true, false, ℕ}
use Rattle.insn.specs.declared.Operand.{Operand}
use Rattle.insn.specs.declared.Operand.TheVariants.{D, Q, S, Imm, Float, Other, Absent}

-- what a D, Q or S register gives by its letter and number; else the other
abbrev pub register_or : {A : Type 0} → (ℕ → ℕ → A) → A → Operand → A
register_or register other (D n) = register 100 n
register_or register other (Q n) = register 113 n
register_or register other (S n) = register 115 n
register_or register other (Imm v) = other
register_or register other (Float x) = other
register_or register other Other = other
register_or register other Absent = other

abbrev pub is_register : Operand → Bool
is_register o = register_or (λ letter n. true) false o

-- its letter and its number; 0 for what is none
abbrev pub register_letter : Operand → ℕ
register_letter o = register_or (λ letter n. letter) 0 o

abbrev pub register_number : Operand → ℕ
register_number o = register_or (λ letter n. n) 0 o
