-- Operands that are the same but for a value: whatever is asked of registers is answered alike.
-- Assumes nothing.
use mathlib.Core.Path.{◌≡◌, refl, sym, subst}
use mathlib.Core.Bool.{Bool, true, false}
use Prim.Native.Nat.{ℕ}
use lib.Dec.{eqb}
use lib.Ieee as Ieee
use lib.IntN.{ℤ}
use borrow.Author.Tests.{eqb-true, eqb-false}
use Rattle.insn.specs.declared.Insn.{Insn}
use Rattle.insn.specs.declared.Operand.{Operand}
use Rattle.insn.specs.declared.Operand.TheVariants.{Imm, Float}
use Rattle.insn.specs.Record.{place_at}
use Rattle.fields.specs.Registers.{vec_bits}
use Rattle.writings.specs.Forms.{is_quad, is_number, register_in}
use Rattle.trips.specs.Writable.{AnotherValue, another-number, another-float, AnotherOfItsKind}

pub data Alike : Operand → Operand → Type 0 where
  same_operand : (o : Operand) → Alike o o
  two-numbers : (v w : ℤ) → Alike (Imm v) (Imm w)
  two_floats : (x y : Ieee.Float) → Alike (Float x) (Float y)

pub alike-quad : (o p : Operand) → Alike o p → is_quad o ≡ is_quad p
alike-quad o p (same_operand q) = refl
alike-quad o p (two-numbers v w) = refl
alike-quad o p (two_floats x y) = refl

pub alike-number : (o p : Operand) → Alike o p → is_number o ≡ is_number p
alike-number o p (same_operand q) = refl
alike-number o p (two-numbers v w) = refl
alike-number o p (two_floats x y) = refl

pub alike-register : (quad : Bool) (o p : Operand) → Alike o p → register_in quad o ≡ register_in quad p
unfolding register_in vec_bits
alike-register quad o p (same_operand q) = refl
alike-register quad o p (two-numbers v w) = refl
alike-register quad o p (two_floats x y) = refl

another-alike : (o p : Operand) → AnotherValue o p → Alike o p
another-alike o p (another-number v w n h) = two-numbers v w
another-alike o p (another-float x y n h) = two_floats x y

-- so are two records, at every place, where one has another value
pub alike_at : (i j : Insn) → AnotherOfItsKind i j → (k : ℕ) → Alike (place_at i k) (place_at j k)
alike_at i j d k = go (eqb k d.place) refl
  where
    go : (b : Bool) → eqb k d.place ≡ b → Alike (place_at i k) (place_at j k)
    go true e = rw (eqb-true k d.place e) (another-alike _ _ d.value)
    go false e = subst (Alike (place_at i k)) (sym (d.elsewhere k (eqb-false k d.place e))) (same_operand (place_at i k))
