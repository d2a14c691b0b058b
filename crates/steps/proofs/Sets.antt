-- Sets of rows: what is in a join, in what two have in common, and in one row alone.
-- Assumes nothing.
use mathlib.Core.Path.{◌≡◌, refl, sym, ◌∙◌, ap}
use mathlib.Core.Bool.{Bool, true, false, ◌&&◌, ◌||◌}
use mathlib.Core.Logic.{◌≢◌}
use Prim.Native.Nat.{ℕ, zero, suc, ◌/◌, ◌%◌, ◌^◌, ◌<◌}
use native.Mathlib.Nat.{div-eq_of_lt, div-div-eq-div-mul, pow-suc, mul_comm}
use native.Mathlib.Omega.{arith}
use lib.Arith.{bin_ind}
use lib.Bits.{bit_and, bit_or, or_shr, or_mod, and_shr, and_mod}
use lib.Dec.{eqb, eqb-suc-suc, eqb-zero-suc, eqb-suc-zero}
use lib.Pow.{pow_pos}
use borrow.Author.Tests.{eqb-false, eq-eqb, ne_eqb}
use Rattle.laws.proofs.Never.{wrong}
use Rattle.steps.specs.Sets.{in_set}

-- a digit is 0 or 1
either : (x y : ℕ) → x < 2 → y < 2 → eqb (bit_or x y) 1 ≡ eqb x 1 || eqb y 1
either zero zero h k = refl
either zero (suc zero) h k = refl
either (suc zero) zero h k = refl
either (suc zero) (suc zero) h k = refl
either zero (suc (suc y)) h k = absurd (let b : ⊥ = omega arith in b)
either (suc zero) (suc (suc y)) h k = absurd (let b : ⊥ = omega arith in b)
either (suc (suc x)) y h k = absurd (let b : ⊥ = omega arith in b)

both : (x y : ℕ) → x < 2 → y < 2 → eqb (bit_and x y) 1 ≡ eqb x 1 && eqb y 1
both zero zero h k = refl
both zero (suc zero) h k = refl
both (suc zero) zero h k = refl
both (suc zero) (suc zero) h k = refl
both zero (suc (suc y)) h k = absurd (let b : ⊥ = omega arith in b)
both (suc zero) (suc (suc y)) h k = absurd (let b : ⊥ = omega arith in b)
both (suc (suc x)) y h k = absurd (let b : ⊥ = omega arith in b)

module _ (a b r : ℕ) where
  pub marked-or : in_set (bit_or a b) r ≡ in_set a r || in_set b r
  unfolding in_set
  marked-or =
      ap (λ (x : ℕ). eqb x 1) (ap (λ (x : ℕ). x % 2) (or_shr a b r) ∙ or_mod (a / 2 ^ r) (b / 2 ^ r) 1)
      ∙ either (a / 2 ^ r % 2) (b / 2 ^ r % 2) (omega arith) (omega arith)

  pub marked-and : in_set (bit_and a b) r ≡ in_set a r && in_set b r
  unfolding in_set
  marked-and =
      ap (λ (x : ℕ). eqb x 1) (ap (λ (x : ℕ). x % 2) (and_shr a b r) ∙ and_mod (a / 2 ^ r) (b / 2 ^ r) 1)
      ∙ both (a / 2 ^ r % 2) (b / 2 ^ r % 2) (omega arith) (omega arith)

-- no row is in the empty set
pub marked-none : (r : ℕ) → in_set 0 r ≡ false
unfolding in_set
marked-none r = ap (λ (x : ℕ). eqb (x % 2) 1) (div-eq_of_lt (pow_pos r))

-- one row's own set
power : (t r : ℕ) → 2 ^ suc t / 2 ^ suc r ≡ 2 ^ t / 2 ^ r
power t r =
    let half : 2 ^ suc t / 2 ≡ 2 ^ t = omega arith in
    ap (λ (x : ℕ). 2 ^ suc t / x) (pow-suc 2 r ∙ mul_comm (2 ^ r) 2) ∙ sym (div-div-eq-div-mul (2 ^ suc t) 2 (2 ^ r)) ∙ ap (λ (x : ℕ). x / 2 ^ r) half

pub marked-alone : (t r : ℕ) → in_set (2 ^ t) r ≡ eqb t r
unfolding in_set
marked-alone zero zero = refl
marked-alone zero (suc r) =
    let small : 1 < 2 ^ suc r = omega (arith, pow_pos r) in
    ap (λ (x : ℕ). eqb (x % 2) 1) (div-eq_of_lt small) ∙ sym (eqb-zero-suc r)
marked-alone (suc t) zero =
    let even : 2 ^ suc t / 1 % 2 ≡ 0 = omega arith in
    ap (λ (x : ℕ). eqb x 1) even ∙ sym (eqb-suc-zero t)
marked-alone (suc t) (suc r) = ap (λ (x : ℕ). eqb (x % 2) 1) (power t r) ∙ marked-alone t r ∙ sym (eqb-suc-suc t r)

-- what a join has, one of the two has; what one of them has, the join has
pub or_left : (p q : Bool) → p ≡ true → p || q ≡ true
or_left true q e = refl
or_left false q e = wrong e

or_right : (p q : Bool) → q ≡ true → p || q ≡ true
or_right true q e = refl
or_right false q e = e

or_case : (p q : Bool) (A : Type 0) → (p ≡ true → A) → (q ≡ true → A) → p || q ≡ true → A
or_case true q A f g e = f refl
or_case false q A f g e = g e

or-none : (p q : Bool) → p || q ≡ false → (p ≡ false) × (q ≡ false)
or-none true q e = wrong (sym e)
or-none false q e = (refl, e)

none_or : (p q : Bool) → p ≡ false → q ≡ false → p || q ≡ false
none_or true q e f = e
none_or false q e f = f

and_none : (p q : Bool) → p && q ≡ false → p ≡ true → q ≡ false
and_none true q e f = e
and_none false q e f = wrong f

never_both : (p q : Bool) → (p ≡ true → q ≡ false) → p && q ≡ false
never_both true q f = f refl
never_both false q f = refl

module _ (a b r : ℕ) where
  pub in_left : in_set a r ≡ true → in_set (bit_or a b) r ≡ true
  in_left e = marked-or a b r ∙ or_left (in_set a r) (in_set b r) e

  pub in_right : in_set b r ≡ true → in_set (bit_or a b) r ≡ true
  in_right e = marked-or a b r ∙ or_right (in_set a r) (in_set b r) e

  pub in_either : (A : Type 0) → (in_set a r ≡ true → A) → (in_set b r ≡ true → A) → in_set (bit_or a b) r ≡ true → A
  in_either A f g e = or_case (in_set a r) (in_set b r) A f g (sym (marked-or a b r) ∙ e)

  pub in-neither : in_set (bit_or a b) r ≡ false → (in_set a r ≡ false) × (in_set b r ≡ false)
  in-neither e = or-none (in_set a r) (in_set b r) (sym (marked-or a b r) ∙ e)

  pub off-both : in_set a r ≡ false → in_set b r ≡ false → in_set (bit_or a b) r ≡ false
  off-both e f = marked-or a b r ∙ none_or (in_set a r) (in_set b r) e f

  -- sets with no row in common
  pub in_one : bit_and a b ≡ 0 → in_set a r ≡ true → in_set b r ≡ false
  in_one e = and_none (in_set a r) (in_set b r) (sym (marked-and a b r) ∙ ap (λ (x : ℕ). in_set x r) e ∙ marked-none r)

-- a row is in its own set, and no other is
pub marked-self : (r : ℕ) → in_set (2 ^ r) r ≡ true
marked-self r = marked-alone r r ∙ eq-eqb r r refl

pub marked_other : (t r : ℕ) → in_set (2 ^ t) r ≡ false → r ≢ t
marked_other t r e = λ h. eqb-false t r (sym (marked-alone t r) ∙ e) (sym h)

pub other-unmarked : (t r : ℕ) → r ≢ t → in_set (2 ^ t) r ≡ false
other-unmarked t r n = marked-alone t r ∙ ne_eqb t r (λ h. n (sym h))

-- a set with no row is empty
half-marked : (a r : ℕ) → in_set (a / 2) r ≡ in_set a (suc r)
unfolding in_set
half-marked a r =
    ap (λ (x : ℕ). eqb (x % 2) 1) (div-div-eq-div-mul a 2 (2 ^ r) ∙ ap (λ (x : ℕ). a / x) (mul_comm 2 (2 ^ r) ∙ sym (pow-suc 2 r)))

lowest : (a : ℕ) → in_set a 0 ≡ false → a % 2 ≡ 0
unfolding in_set
lowest a e = let n = eqb-false (a / 1 % 2) 1 e in omega (arith, n)

abbrev NoRow : ℕ → Type 0
NoRow a = ((r : ℕ) → in_set a r ≡ false) → a ≡ 0

pub no_row : (a : ℕ) → NoRow a
no_row = bin_ind NoRow (λ f. refl) (λ a ih f. let h : a / 2 ≡ 0 = ih (λ r. half-marked a r ∙ f (suc r)) in let l = lowest a (f 0) in omega arith)

pub none-common : (a b : ℕ) → ((r : ℕ) → in_set a r ≡ true → in_set b r ≡ false) → bit_and a b ≡ 0
none-common a b f = no_row (bit_and a b) (λ r. marked-and a b r ∙ never_both (in_set a r) (in_set b r) (f r))
