-- Sums, differences and products of whole numbers, modulo 2^w: each is that of numbers that are congruent to them. All over the width.
-- Assumes nothing.
use Rattle.std.proofs.Common.{◌≡◌, ℕ, suc, ◌+◌, ◌-◌, ◌*◌, ◌/◌, ◌%◌, ◌^◌, ℤ, pos, negsuc, ◌+ℤ◌, ◌-ℤ◌, ◌*ℤ◌, sym, refl, ap, ◌∙◌, add-zero, mod-lt, mod-eq_of_lt, mul_comm, add-mul, div-add-mod', mul-add, mul_right_comm, arith, pow_pos}
use native.Mathlib.Nat.{add-mod, mod-add-mod, zero-mod, mul-mod_left, add-mod_right, mod-add-div', add-mul-mod_self_right}
use Rattle.laws.specs.Signed.{modulo}
use Rattle.laws.proofs.Signed.{modulo-lt}
use Rattle.arithmetic.proofs.Numbers.{cancel}
use Rattle.arithmetic.proofs.Wholes.{up, down, Is, plus-whole, minus-whole, times-whole}
use Rattle.arithmetic.proofs.Signs.{back}

-- numbers that are alike modulo m
module _ (m : ℕ) where
  add-like : (a b c d : ℕ) → a % m ≡ b % m → c % m ≡ d % m → (a + c) % m ≡ (b + d) % m
  add-like a b c d p q = add-mod a c m ∙ ap (λ (n : ℕ). (n + c % m) % m) p ∙ ap (λ (n : ℕ). (b % m + n) % m) q ∙ sym (add-mod b d m)

  factor : (a c : ℕ) → (a * c) % m ≡ (a % m * c) % m
  factor a c =
      ap (λ (n : ℕ). (n * c) % m) (sym (mod-add-div' a m))
      ∙ ap (λ (n : ℕ). n % m) (add-mul (a % m) (a / m * m) c ∙ ap (λ (n : ℕ). a % m * c + n) (mul_right_comm (a / m) m c))
      ∙ add-mul-mod_self_right (a % m * c) (a / m * c) m

  factor-like : (a b c : ℕ) → a % m ≡ b % m → (a * c) % m ≡ (b * c) % m
  factor-like a b c p = factor a c ∙ ap (λ (n : ℕ). (n * c) % m) p ∙ sym (factor b c)

  mul-like : (a b c d : ℕ) → a % m ≡ b % m → c % m ≡ d % m → (a * c) % m ≡ (b * d) % m
  mul-like a b c d p q =
      factor-like a b c p ∙ ap (λ (n : ℕ). n % m) (mul_comm b c) ∙ factor-like c d b q ∙ ap (λ (n : ℕ). n % m) (mul_comm d b)

parts : (x y c d : ℕ) → x * y + ((x + c) * d + c * (y + d)) ≡ (x + c) * (y + d) + c * d
parts x y c d = omega (arith, add-mul x c d, mul-add c y d, add-mul x c (y + d), mul-add x y d)

module _ (w : ℕ) where
  -- x and z are the same modulo 2^w
  abbrev pub Congruent : ℕ → ℤ → Type 0
  Congruent x z = x % 2 ^ w ≡ modulo w z

  even : (z : ℤ) → (modulo w z + down z) % 2 ^ w ≡ up z % 2 ^ w
  unfolding modulo
  even (pos n) = mod-add-mod n (2 ^ w) 0 ∙ ap (λ (x : ℕ). x % 2 ^ w) (add-zero n)
  even (negsuc n) =
      let l = mod-lt n (pow_pos w) in
      let d = div-add-mod' n (2 ^ w) in
      let e : 2 ^ w - 1 - n % 2 ^ w + suc n ≡ n / 2 ^ w * 2 ^ w + 2 ^ w = omega arith in
      ap (λ (x : ℕ). x % 2 ^ w) e ∙ add-mod_right (n / 2 ^ w * 2 ^ w) (2 ^ w) ∙ mul-mod_left (n / 2 ^ w) (2 ^ w) ∙ sym (zero-mod (2 ^ w))

  -- where z is p - q: what gives p with q is congruent to z, and nothing else
  pub from : (r p q : ℕ) (z : ℤ) → Is z p q → (r + q) % 2 ^ w ≡ p % 2 ^ w → Congruent r z
  from r p q z e h =
      let a : r + down z + q ≡ r + q + down z = omega arith in
      cancel (2 ^ w) (pow_pos w) r (modulo w z) (down z)
      (cancel (2 ^ w) (pow_pos w) (r + down z) (up z) q
      (ap (λ (x : ℕ). x % 2 ^ w) a ∙ add-like (2 ^ w) (r + q) p (down z) (down z) h refl ∙ ap (λ (x : ℕ). x % 2 ^ w) (sym e))
      ∙ sym (even z))
      ∙ mod-eq_of_lt (modulo-lt w z)

  over : (x : ℕ) (z : ℤ) → Congruent x z → (x + down z) % 2 ^ w ≡ up z % 2 ^ w
  over x z p = add-like (2 ^ w) x (modulo w z) (down z) (down z) (p ∙ sym (mod-eq_of_lt (modulo-lt w z))) refl ∙ even z

  pub congruent : (x : ℕ) (z : ℤ) → x ≡ modulo w z → Congruent x z
  congruent x z e = rw e (mod-eq_of_lt (modulo-lt w z))

  module _ (x y : ℕ) (a b : ℤ) (p : Congruent x a) (q : Congruent y b) where
    pub plus : Congruent (x + y) (a +ℤ b)
    plus =
        let e : x + y + (down a + down b) ≡ x + down a + (y + down b) = omega arith in
        from (x + y) (up a + up b) (down a + down b) (a +ℤ b) (plus-whole a b)
        (ap (λ (n : ℕ). n % 2 ^ w) e ∙ add-like (2 ^ w) (x + down a) (up a) (y + down b) (up b) (over x a p) (over y b q))

    pub minus : modulo w (pos x -ℤ pos y) ≡ modulo w (a -ℤ b)
    minus =
        let r = modulo w (pos x -ℤ pos y) in
        let e : r + down a + (y + down b) ≡ r + y + (down a + down b) = omega arith in
        let g : x + (down a + down b) ≡ x + down a + down b = omega arith in
        let h : r + (down a + up b) ≡ r + down a + up b = omega arith in
        sym (mod-eq_of_lt (modulo-lt w (pos x -ℤ pos y)))
        ∙ from r (up a + down b) (down a + up b) (a -ℤ b) (minus-whole a b)
        (ap (λ (n : ℕ). n % 2 ^ w) h
        ∙ add-like (2 ^ w) (r + down a) (r + down a) (up b) (y + down b) refl (sym (over y b q))
        ∙ ap (λ (n : ℕ). n % 2 ^ w) e
        ∙ add-like (2 ^ w) (r + y) x (down a + down b) (down a + down b) (back w x y) refl
        ∙ ap (λ (n : ℕ). n % 2 ^ w) g
        ∙ add-like (2 ^ w) (x + down a) (up a) (down b) (down b) (over x a p) refl)

    pub times : Congruent (x * y) (a *ℤ b)
    times =
        let f : x * y + ((x + down a) * down b + down a * (y + down b)) ≡ (x + down a) * (y + down b) + down a * down b = parts x y (down a) (down b) in
        let v = over x a p in
        let u = over y b q in
        from (x * y) (up a * up b + down a * down b) (up a * down b + down a * up b) (a *ℤ b) (times-whole a b)
        (add-like (2 ^ w) (x * y) (x * y) (up a * down b + down a * up b) ((x + down a) * down b + down a * (y + down b)) refl
        (add-like (2 ^ w) (up a * down b) ((x + down a) * down b) (down a * up b) (down a * (y + down b))
        (mul-like (2 ^ w) (up a) (x + down a) (down b) (down b) (sym v) refl)
        (mul-like (2 ^ w) (down a) (down a) (up b) (y + down b) refl (sym u)))
        ∙ ap (λ (n : ℕ). n % 2 ^ w) f
        ∙ add-like (2 ^ w) ((x + down a) * (y + down b)) (up a * up b) (down a * down b) (down a * down b)
        (mul-like (2 ^ w) (x + down a) (up a) (y + down b) (up b) v u)
        refl)
