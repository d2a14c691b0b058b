-- Registers there and back, and what an accepted answer is made of.
-- Assumes nothing.
use mathlib.Core.Path.{◌≡◌, refl, sym, ap}
use mathlib.Core.Bool.{Bool, beq, true, false}
use Prim.Native.Nat.{ℕ, ◌/◌, ◌%◌, ◌<◌}
use lib.Dec.{eqb}
use borrow.Author.Tests.{eqb-true}
use Rattle.laws.specs.Answer.{Answer, accepted, refused, and_then}
use Rattle.laws.specs.Choice.{choose, both}
use Rattle.laws.proofs.Never.{never, wrong}
use Rattle.insn.specs.declared.Operand.{Operand}
use Rattle.insn.specs.declared.Operand.TheVariants.{D, Q}
use Rattle.fields.specs.Registers.{Bits, bits, vec_of, vec_bits}
use Rattle.fields.proofs.Promises.{bits_of_vec, vec_of_bits}
use Rattle.writings.specs.Forms.{is_quad, is_number, of_length, register_in, all_three, numbers}
use Rattle.trips.specs.Spelling.{same_bits, same_register, is_zero}
use Rattle.laws.proofs.Tests.{both_true}

-- a register of a length, by its number and back
length-of : (quad : Bool) (x : Answer Bits) (d : ℕ) → of_length quad x ≡ accepted d → x ≡ accepted (bits quad d)
length-of true (accepted (bits true n)) d e = ap (λ (k : ℕ). accepted (bits true k)) (cc)
length-of true (accepted (bits false n)) d e = never (cc)
length-of false (accepted (bits true n)) d e = never (cc)
length-of false (accepted (bits false n)) d e = ap (λ (k : ℕ). accepted (bits false k)) (cc)
length-of quad (refused n) d e = never (cc)

pub register-back : (quad : Bool) (o : Operand) (d : ℕ) → register_in quad o ≡ accepted d → (vec_of quad d ≡ accepted o) × (d < 32)
unfolding register_in
register-back quad o d e = vec_of_bits quad d o (length-of quad (vec_bits o) d e)

pub register-forth : (quad : Bool) (d : ℕ) (o : Operand) → d < 32 → vec_of quad d ≡ accepted o → register_in quad o ≡ accepted d
unfolding register_in
register-forth true d o h e = rw (bits_of_vec true d o h e)
register-forth false d o h e = rw (bits_of_vec false d o h e)

quad-even : (b : Bool) (n : ℕ) (o : Operand) → choose b (accepted (Q n)) (refused 6) ≡ accepted o → Q n ≡ o
quad-even true n o e = cc
quad-even false n o e = never (cc)

pub quad-of : (quad : Bool) (d : ℕ) (o : Operand) → vec_of quad d ≡ accepted o → is_quad o ≡ quad
unfolding vec_of
quad-of true d o e = sym (ap is_quad (quad-even (eqb (d % 2) 0) (d / 2) o e))
quad-of false d o e = let k : D d ≡ o = cc in sym (ap is_quad k)

pub no_number : (quad : Bool) (d : ℕ) (o : Operand) → vec_of quad d ≡ accepted o → is_number o ≡ false
unfolding vec_of
no_number true d o e = sym (ap is_number (quad-even (eqb (d % 2) 0) (d / 2) o e))
no_number false d o e = let k : D d ≡ o = cc in sym (ap is_number k)

pub no_zero : (quad : Bool) (d : ℕ) (o : Operand) → vec_of quad d ≡ accepted o → is_zero o ≡ false
unfolding vec_of
no_zero true d o e = sym (ap is_zero (quad-even (eqb (d % 2) 0) (d / 2) o e))
no_zero false d o e = let k : D d ≡ o = cc in sym (ap is_zero k)

-- two registers of a length are the same exactly if their numbers are
of-one-length : (quad : Bool) (y z : ℕ) → both (beq quad quad) (eqb y z) ≡ eqb y z
of-one-length true y z = refl
of-one-length false y z = refl

pub same-registers : (quad : Bool) (y z : ℕ) (b c : Operand) → (vec_of quad y ≡ accepted b) × (y < 32) → (vec_of quad z ≡ accepted c) × (z < 32)
    → same_register b c ≡ eqb y z
same-registers quad y z b c eb ec =
    rw (bits_of_vec quad y b eb.1 eb.0, bits_of_vec quad z c ec.1 ec.0) (of-one-length quad y z)

alike : (p q : Bool) → beq p q ≡ true → p ≡ q
alike true true e = refl
alike true false e = wrong e
alike false true e = wrong e
alike false false e = refl

-- and the same register is the same operand
pub same-register : (x y : Operand) → same_register x y ≡ true → y ≡ x
same-register x y e = go (vec_bits x) (vec_bits y) refl refl e
  where
    go : (a b : Answer Bits) → vec_bits x ≡ a → vec_bits y ≡ b → same_bits a b ≡ true → y ≡ x
    go (accepted (bits p m)) (accepted (bits q n)) ex ey h =
        let t = both_true (beq p q) (eqb m n) h in
        let length = alike p q t.0 in
        let number = eqb-true m n t.1 in
        let dx = (vec_of_bits p m x ex).0 in
        let dy = (vec_of_bits q n y ey).0 in
        cc
    go (accepted (bits p m)) (refused n) ex ey h = wrong h
    go (refused n) b ex ey h = wrong h

-- what an accepted answer is made of
pub then : {A B : Type 0} (x : Answer A) (f : A → Answer B) (b : B) → and_then x f ≡ accepted b → (a : A) × (x ≡ accepted a) × (f a ≡ accepted b)
then (accepted a) f b e = (a, refl, e)
then (refused n) f b e = never (cc)

pub record Threefold (x y z : Answer ℕ) (a b c : ℕ) : Type 0 where
  pub first : x ≡ accepted a
  pub second : y ≡ accepted b
  pub third : z ≡ accepted c

pub threefold : (x y z : Answer ℕ) (a b c : ℕ) → all_three x y z ≡ accepted (numbers a b c) → Threefold x y z a b c
unfolding all_three
threefold (accepted p) (accepted q) (accepted r) a b c e = record { first = ap accepted (cc); second = ap accepted (cc); third = ap accepted (cc) }
threefold (accepted p) (accepted q) (refused n) a b c e = never (cc)
threefold (accepted p) (refused n) z a b c e = never (cc)
threefold (refused n) y z a b c e = never (cc)
