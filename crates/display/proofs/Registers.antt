-- The text of a register: its letter and its number.
-- Assumes nothing.
use mathlib.Core.Path.{◌≡◌, refl, sym, ap, ◌∙◌}
use mathlib.Core.Bool.{true, false}
use mathlib.Core.List.{[], ◌∷◌}
use mathlib.Core.Logic.{◌⊎◌, inl, inr}
use Prim.Native.Nat.{ℕ}
use Rattle.laws.proofs.Never.{wrong}
use Rattle.insn.specs.declared.Operand.{Operand}
use Rattle.insn.specs.declared.Operand.TheVariants.{D, Q, S, Imm, Float, Other, Absent}
use Rattle.display.specs.Operands.{operand_text}
use Rattle.display.specs.Own.{is_register, register_letter, register_number}
use Rattle.text.specs.Text.{decimal}

pub register-text : (o : Operand) → is_register o ≡ true → register_letter o ∷ decimal (register_number o) ≡ operand_text o
unfolding operand_text
register-text (D n) h = refl
register-text (Q n) h = refl
register-text (S n) h = refl
register-text (Imm v) h = wrong h
register-text (Float x) h = wrong h
register-text Other h = wrong h
register-text Absent h = wrong h

pub no_register : {A : Type 0} (o p : Operand) → is_register o ≡ false → o ≡ p → is_register p ≡ true → A
no_register o p h e k = wrong (sym h ∙ ap is_register e ∙ k)

-- what is no register, number or float has no text
pub no_text : (o : Operand) → is_register o ≡ false
    → ((n : ℕ) × (o ≡ D n)) ⊎ (((n : ℕ) × (o ≡ Q n)) ⊎ (((n : ℕ) × (o ≡ S n)) ⊎ ((o ≡ Other) ⊎ (o ≡ Absent)))) → [] ≡ operand_text o
unfolding operand_text
no_text o h (inl e) = no_register o _ h e.1 refl
no_text o h (inr (inl e)) = no_register o _ h e.1 refl
no_text o h (inr (inr (inl e))) = no_register o _ h e.1 refl
no_text o h (inr (inr (inr (inl e)))) = rw e
no_text o h (inr (inr (inr (inr e)))) = rw e
