-- Whole numbers as differences of two numbers from 0, which linear arithmetic reads: sums, differences and products.
-- Assumes nothing.
use Rattle.std.proofs.Common.{◌≡◌, ℕ, zero, suc, ◌+◌, ◌*◌, ℤ, pos, negsuc, ◌+ℤ◌, ◌-ℤ◌, ◌*ℤ◌, neg_ℤ, refl, ap, arith, le-ltb, lt-ltb}
use lib.IntN.{sub_ℕ}
use Rattle.laws.proofs.Tests.{sides}

-- a whole number is a difference of two numbers from 0
abbrev pub up : ℤ → ℕ
up (pos n) = n
up (negsuc n) = 0

abbrev pub down : ℤ → ℕ
down (pos n) = 0
down (negsuc n) = suc n

sub_is : (a b : ℕ) → up (sub_ℕ a b) + b ≡ a + down (sub_ℕ a b)
sub_is a b = sides b a (λ h. rw (lt-ltb a b h) (omega arith)) (λ h. rw (le-ltb a b h) (omega arith))

pub neg-up : (z : ℤ) → up (neg_ℤ z) ≡ down z
neg-up (pos zero) = refl
neg-up (pos (suc n)) = refl
neg-up (negsuc n) = refl

pub neg-down : (z : ℤ) → down (neg_ℤ z) ≡ up z
neg-down (pos zero) = refl
neg-down (pos (suc n)) = refl
neg-down (negsuc n) = refl

pub plus-whole : (y z : ℤ) → up (y +ℤ z) + (down y + down z) ≡ up y + up z + down (y +ℤ z)
plus-whole (pos a) (pos b) = omega arith
plus-whole (pos a) (negsuc b) = omega (arith, sub_is a (suc b))
plus-whole (negsuc a) (pos b) = omega (arith, sub_is b (suc a))
plus-whole (negsuc a) (negsuc b) = omega arith

pub minus-whole : (y z : ℤ) → up (y -ℤ z) + (down y + up z) ≡ up y + down z + down (y -ℤ z)
minus-whole y z = omega (arith, plus-whole y (neg_ℤ z), neg-up z, neg-down z)

pub times-whole : (y z : ℤ) → up (y *ℤ z) + (up y * down z + down y * up z) ≡ up y * up z + down y * down z + down (y *ℤ z)
times-whole (pos a) (pos b) = omega arith
times-whole (pos a) (negsuc b) = omega (arith, neg-up (pos (a * suc b)), neg-down (pos (a * suc b)))
times-whole (negsuc a) (pos b) = omega (arith, neg-up (pos (suc a * b)), neg-down (pos (suc a * b)))
times-whole (negsuc a) (negsuc b) = omega arith

-- z is p - q
abbrev pub Is : ℤ → ℕ → ℕ → Type 0
Is z p q = up z + q ≡ p + down z

-- a sum with 1 is not 0
clash : (a b : ℕ) → a + (b + 1) ≡ 0 → ⊥
clash a b h = omega arith

-- numbers that are the same difference are the same
pub same_whole : (a b : ℤ) → Is a (up b) (down b) → a ≡ b
same_whole (pos a) (pos b) h = ap pos (omega arith)
same_whole (pos a) (negsuc b) h = absurd (clash a b (omega arith))
same_whole (negsuc a) (pos b) h = absurd (clash b a (omega arith))
same_whole (negsuc a) (negsuc b) h = ap negsuc (omega arith)
