-- The two forms of a signed number, by its top bit, and what it is modulo 2^w.
-- Assumes nothing.
use mathlib.Core.Path.{◌≡◌, refl, ap, ◌∙◌}
use Prim.Native.Nat.{ℕ, zero, suc, ◌+◌, ◌-◌, ◌*◌, ◌%◌, ◌^◌, ◌≤◌, ◌<◌, zero-le}
use native.Mathlib.Nat.{sub-zero, add-zero, mod-lt, mod-eq_of_lt}
use native.Mathlib.Omega.{arith}
use lib.IntN.{ℤ, pos, negsuc, sub_ℕ, ◌-ℤ◌}
use lib.Pow.{pow_pos, pow-add, ones_sub-lt}
use lib.Signed.{mag}
use borrow.Author.Tests.{lt-ltb, le-ltb}
use Rattle.laws.specs.Signed.{twos_complement, modulo}
use Rattle.laws.proofs.Tests.{sides}

-- a difference of two numbers from 0, by its sign
pub minus_is : (a b : ℕ) → pos a -ℤ pos b ≡ sub_ℕ a b
minus_is a zero = rw (le-ltb a 0 zero-le, add-zero, sub-zero)
minus_is a (suc b) = refl

-- 2^w is twice its half
pub twice_half : (w : ℕ) → 0 < w → 2 ^ w ≡ 2 ^ (w - 1) + 2 ^ (w - 1)
twice_half w p =
    let e : w ≡ (w - 1) + 1 = omega arith in
    let d : 2 ^ (w - 1) * 2 ^ 1 ≡ 2 ^ (w - 1) + 2 ^ (w - 1) = omega arith in
    ap (λ (n : ℕ). 2 ^ n) e ∙ pow-add 2 (w - 1) 1 ∙ d

-- a whole number modulo 2^w has w bits
pub modulo-lt : (w : ℕ) (z : ℤ) → modulo w z < 2 ^ w
unfolding modulo
modulo-lt w (pos n) = mod-lt n (pow_pos w)
modulo-lt w (negsuc n) = ones_sub-lt w (n % 2 ^ w)

-- one from 0 that has w bits is its own bits
pub modulo-pos : (w n : ℕ) → n < 2 ^ w → modulo w (pos n) ≡ n
unfolding modulo
modulo-pos w n h = mod-eq_of_lt h

-- and one below 0 has their complement
pub modulo-neg : (w n : ℕ) → n < 2 ^ w → modulo w (negsuc n) ≡ 2 ^ w - 1 - n
unfolding modulo
modulo-neg w n h = rw (mod-eq_of_lt h)

module _ (w x : ℕ) where
  pub signed_low : x < 2 ^ (w - 1) → twos_complement w x ≡ pos x
  unfolding twos_complement
  signed_low h = rw (lt-ltb x (2 ^ (w - 1)) h)

  pub signed_high : x < 2 ^ w → 2 ^ (w - 1) ≤ x → twos_complement w x ≡ negsuc (2 ^ w - 1 - x)
  unfolding twos_complement
  signed_high l h =
      let e : 2 ^ w - suc x ≡ 2 ^ w - 1 - x = omega arith in
      rw (le-ltb x (2 ^ (w - 1)) h, minus_is x (2 ^ w), lt-ltb x (2 ^ w) l, e)

  -- a signed number's magnitude has w - 1 bits
  pub signed-fits : 0 < w → x < 2 ^ w → mag (twos_complement w x) < 2 ^ (w - 1)
  signed-fits z l =
      sides (2 ^ (w - 1)) x (λ h. rw (signed_low h) h)
      (λ h. let t = twice_half w z in
      rw (signed_high l h) (omega arith))
