-- Halves of sums and differences from the halves and the lowest bits of their parts, each law over the width and the sign.
-- Assumes nothing.
use mathlib.Core.Path.{◌≡◌, refl, sym, ◌∙◌, ap}
use Prim.Native.Nat.{ℕ, ◌+◌, ◌-◌, ◌*◌, ◌/◌, ◌%◌, ◌^◌, ◌<◌}
use native.Mathlib.Omega.{arith}
use lib.IntN.{ℤ, pos, negsuc, ◌+ℤ◌, ◌-ℤ◌}
use Rattle.laws.specs.Signed.{modulo}
use Rattle.laws.proofs.Signed.{twice_half}
use Rattle.laws.proofs.Tests.{sides}
use Rattle.insn.specs.declared.Sign.{Sign}
use Rattle.insn.specs.declared.Sign.TheVariants.{Unsigned, Signed}
use Rattle.arithmetic.specs.Whole.{read_as}
use Rattle.arithmetic.proofs.Signs.{read_low, read-high}
use Rattle.arithmetic.proofs.Wholes.{up, down, plus-whole, minus-whole, same_whole}
use Rattle.arithmetic.proofs.Modulo.{Congruent, congruent, plus, minus}
use Rattle.halving.specs.Half.{half}

-- what a whole number is more than twice its half
abbrev low_bit : ℤ → ℕ
low_bit (pos n) = n % 2
low_bit (negsuc n) = 1 - n % 2

-- z is twice its half and its lowest bit
pub half_is : (z : ℤ) → (2 * up (half z) + low_bit z + down z ≡ up z + 2 * down (half z)) × (low_bit z < 2)
unfolding half
half_is (pos n) = (omega arith, omega arith)
half_is (negsuc n) = (omega arith, omega arith)

module _ (a b : ℤ) where
  half-plus : (c : ℕ) → c < 2 → half (a +ℤ b +ℤ pos c) ≡ half a +ℤ half b +ℤ pos ((low_bit a + low_bit b + c) / 2)
  half-plus c l =
      let k = (low_bit a + low_bit b + c) / 2 in
      same_whole (half (a +ℤ b +ℤ pos c)) (half a +ℤ half b +ℤ pos k)
      (omega (
        arith,
        half_is a,
        half_is b,
        half_is (a +ℤ b +ℤ pos c),
        plus-whole a b,
        plus-whole (a +ℤ b) (pos c),
        plus-whole (half a) (half b),
        plus-whole (half a +ℤ half b) (pos k),
      ))

  half-minus : half (a -ℤ b) ≡ half a -ℤ half b -ℤ pos ((1 + low_bit b - low_bit a) / 2)
  half-minus =
      let k = (1 + low_bit b - low_bit a) / 2 in
      same_whole (half (a -ℤ b)) (half a -ℤ half b -ℤ pos k)
      (omega (
        arith,
        half_is a,
        half_is b,
        half_is (a -ℤ b),
        minus-whole a b,
        minus-whole (half a) (half b),
        minus-whole (half a -ℤ half b) (pos k),
      ))

-- a lane's lowest bit is its number's
low_bit_lem : (s : Sign) (w x : ℕ) → 0 < w → x < 2 ^ w → low_bit (read_as s w x) ≡ x % 2
unfolding read_as
low_bit_lem Unsigned w x z l = refl
low_bit_lem Signed w x z l =
    sides (2 ^ (w - 1)) x (λ h. rw (read_low w x h))
    (λ h. let t = twice_half w z in
    rw (read-high w x l h) (omega arith))

itself : (w n : ℕ) → Congruent w n (pos n)
unfolding modulo
itself w n = refl

-- what the code does, where h and k are the halves as lanes
module _ (s : Sign) (w x y : ℕ) (z : 0 < w) (lx : x < 2 ^ w) (ly : y < 2 ^ w) (h k : ℕ)
    (p : h ≡ modulo w (half (read_as s w x))) (q : k ≡ modulo w (half (read_as s w y))) where
  pub half-sum : (c t r : ℕ) → c < 2 → t ≡ (h + k) % 2 ^ w → r ≡ (t + (x % 2 + y % 2 + c) / 2) % 2 ^ w
      → r ≡ modulo w (half (read_as s w x +ℤ read_as s w y +ℤ pos c))
  half-sum c t r l e g =
      let a = read_as s w x in
      let b = read_as s w y in
      let i = (x % 2 + y % 2 + c) / 2 in
      let f = rw (low_bit_lem s w x z lx, low_bit_lem s w y z ly) at (half-plus a b c l) in
      g
      ∙ plus w t i (half a +ℤ half b) (pos i)
      (congruent w t (half a +ℤ half b) (e ∙ plus w h k (half a) (half b) (congruent w h (half a) p) (congruent w k (half b) q)))
      (itself w i)
      ∙ ap (modulo w) (sym f)

  pub half-difference : (t r : ℕ) → t ≡ modulo w (pos h -ℤ pos k) → r ≡ modulo w (pos t -ℤ pos ((1 + y % 2 - x % 2) / 2))
      → r ≡ modulo w (half (read_as s w x -ℤ read_as s w y))
  half-difference t r e g =
      let a = read_as s w x in
      let b = read_as s w y in
      let i = (1 + y % 2 - x % 2) / 2 in
      let f = rw (low_bit_lem s w x z lx, low_bit_lem s w y z ly) at (half-minus a b) in
      g
      ∙ minus w t i (half a -ℤ half b) (pos i)
      (congruent w t (half a -ℤ half b) (e ∙ minus w h k (half a) (half b) (congruent w h (half a) p) (congruent w k (half b) q)))
      (itself w i)
      ∙ ap (modulo w) (sym f)
