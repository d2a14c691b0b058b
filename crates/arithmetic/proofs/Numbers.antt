-- Laws on numbers of w bits, each over the width.
-- Assumes nothing.
use Rattle.std.proofs.Common.{◌≡◌, ℕ, ◌+◌, ◌-◌, ◌*◌, ◌/◌, ◌%◌, ◌^◌, ◌<◌, ◌≤◌, sym, ap, ◌∙◌, subst, lt_of_lt_of_le, mod-lt, mul_assoc, mul_comm, add-mul, div-add-mod', mul-add, mul_right_comm, arith, pow_mono, pow-add, shl_exact}
use native.Mathlib.Nat.{mul-mul-mul_comm, mod-add-mod, add-mod-mod, add-mod_right, add-mul-mod_self_right, mul-mod_left, div-eq_of_lt}
use lib.Pow.{mod-mod-pow, ones_split, high, ones_lt}

-- a word of ones, shifted right until w are left
pub ones_shr : (w : ℕ) → w ≤ 64 → (2 ^ 64 - 1) / 2 ^ (64 - w) ≡ 2 ^ w - 1
ones_shr w h =
    let e : 64 ≡ w + (64 - w) = omega arith in
    ap (λ (n : ℕ). (2 ^ n - 1) / 2 ^ (64 - w)) e
    ∙ ap (λ (n : ℕ). n / 2 ^ (64 - w)) (ones_split w (64 - w))
    ∙ high (2 ^ w - 1) (64 - w) (ones_lt (64 - w))

-- a number cut at 64 bits and then at w
pub cut64 : (n w : ℕ) → w ≤ 64 → n % 2 ^ 64 % 2 ^ w ≡ n % 2 ^ w
cut64 n w h =
    let e : 64 - w + w ≡ 64 = omega arith in
    subst (λ (k : ℕ). n % 2 ^ k % 2 ^ w ≡ n % 2 ^ w) e (mod-mod-pow n (64 - w) w)

pub add-cut64 : (d n w : ℕ) → w ≤ 64 → (d + n % 2 ^ 64) % 2 ^ w ≡ (d + n) % 2 ^ w
add-cut64 d n w h = sym (add-mod-mod d (n % 2 ^ 64) (2 ^ w)) ∙ ap (λ (v : ℕ). (d + v) % 2 ^ w) (cut64 n w h) ∙ add-mod-mod d n (2 ^ w)

-- a shift by all the bits or more
pub shr-out : (x j k : ℕ) → x < 2 ^ j → j ≤ k → x / 2 ^ k ≡ 0
shr-out x j k p q = div-eq_of_lt (lt_of_lt_of_le p (pow_mono q))

pub shl-out : (x w k : ℕ) → w ≤ k → (x * 2 ^ k) % 2 ^ w ≡ 0
shl-out x w k h =
    let e : k ≡ (k - w) + w = omega arith in
    ap (λ (n : ℕ). (x * n) % 2 ^ w) (ap (λ (n : ℕ). 2 ^ n) e ∙ pow-add 2 (k - w) w)
    ∙ ap (λ (n : ℕ). n % 2 ^ w) (sym (mul_assoc x (2 ^ (k - w)) (2 ^ w)))
    ∙ mul-mod_left (x * 2 ^ (k - w)) (2 ^ w)

-- what is added on both sides, modulo m, can be left out
module _ (m : ℕ) (z : 0 < m) where
  gone : (x b : ℕ) → (x + b + (m - b % m)) % m ≡ x % m
  gone x b =
      let l = mod-lt b z in
      let d = div-add-mod' b m in
      let e : x + b + (m - b % m) ≡ x + b / m * m + m = omega arith in
      ap (λ (n : ℕ). n % m) e ∙ add-mod_right (x + b / m * m) m ∙ add-mul-mod_self_right x (b / m) m

  pub cancel : (x y b : ℕ) → (x + b) % m ≡ (y + b) % m → x % m ≡ y % m
  cancel x y b h =
      sym (gone x b) ∙ sym (mod-add-mod (x + b) m (m - b % m)) ∙ ap (λ (n : ℕ). (n + (m - b % m)) % m) h
      ∙ mod-add-mod (y + b) m (m - b % m)
      ∙ gone y b

-- a product by halves of 32 bits
expand : (a b c d h : ℕ) → (a * h + b) * (c * h + d) ≡ a * c * (h * h) + a * d * h + (b * c * h + b * d)
expand a b c d h = rw (add-mul, mul-add, mul-add, mul-mul-mul_comm, mul_right_comm a h d, ← mul_assoc b c h)

pub product_is : (x y : ℕ) → x * y ≡ x / 2 ^ 32 * (y / 2 ^ 32) * 2 ^ 64 + x / 2 ^ 32 * (y % 2 ^ 32) * 2 ^ 32 + (x % 2 ^ 32 * (y / 2 ^ 32) * 2 ^ 32 + x % 2 ^ 32 * (y % 2 ^ 32))
product_is x y =
    ap (λ (n : ℕ). n * y) (sym (div-add-mod' x (2 ^ 32))) ∙ ap (λ (n : ℕ). (x / 2 ^ 32 * 2 ^ 32 + x % 2 ^ 32) * n) (sym (div-add-mod' y (2 ^ 32)))
    ∙ expand (x / 2 ^ 32) (x % 2 ^ 32) (y / 2 ^ 32) (y % 2 ^ 32) (2 ^ 32)

-- a lane put at its place
pub placed : (w at r : ℕ) → at + w ≤ 64 → r < 2 ^ w → (r * 2 ^ at) % 2 ^ 64 ≡ 2 ^ at * r
placed w at r h p = shl_exact w at 64 p (omega arith) ∙ mul_comm r (2 ^ at)
