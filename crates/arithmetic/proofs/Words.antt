-- Whole numbers as the code's i64 has them: bits that are read in two's complement.
-- Assumes nothing.
use Rattle.std.proofs.Common.{◌≡◌, ℕ, suc, ◌+◌, ◌-◌, ◌%◌, ◌^◌, ◌<◌, ◌≤◌, ℤ, pos, negsuc, sym, refl, ap, ◌∙◌, lt_of_lt_of_le, arith, pow_mono, w64, SFits, to_z, of_z}
use lib.Signed.{shr_z, mag_shr}
use mir.ValLaws.{to_z-of_z, sfits_le}
use Rattle.laws.specs.Signed.{modulo}
use Rattle.insn.specs.declared.Sign.TheVariants.{Signed}
use Rattle.arithmetic.specs.Whole.{read_as}
use Rattle.arithmetic.proofs.Numbers.{cut64}
use Rattle.arithmetic.proofs.Signs.{read_fits, minus-of, minus-down}

module _ (w x : ℕ) (z : 0 < w) (h : w ≤ 64) where
  -- a signed lane is an i64 for every width, and so is what a right shift leaves of it
  pub lane-fits : x < 2 ^ w → SFits w64 (read_as Signed w x)
  lane-fits b = record { sfits = lt_of_lt_of_le (read_fits w x z b) (pow_mono {i = w - 1} {j = 63} (omega arith)) }

  pub lane-is : x < 2 ^ w → to_z w64 (of_z w64 (read_as Signed w x)) ≡ read_as Signed w x
  lane-is b = to_z-of_z w64 (read_as Signed w x) (lane-fits b)

  pub shift_is : (m : ℕ) → x < 2 ^ w → to_z w64 (of_z w64 (shr_z (to_z w64 (of_z w64 (read_as Signed w x))) m)) ≡ shr_z (read_as Signed w x) m
  shift_is m b =
      ap (λ (y : ℤ). to_z w64 (of_z w64 (shr_z y m))) (lane-is b)
      ∙ to_z-of_z w64 (shr_z (read_as Signed w x) m) (sfits_le (mag_shr (read_as Signed w x) m) (lane-fits b))

-- the lowest bits of an i64
pub low_bits : (w : ℕ) → w ≤ 64 → (z : ℤ) → SFits w64 z → of_z w64 z % 2 ^ w ≡ modulo w z
unfolding modulo
low_bits w h (pos n) s = refl
low_bits w h (negsuc n) s =
    let l = s.sfits in
    let r = 2 ^ 64 - suc n in
    let e : r + suc n ≡ 2 ^ 64 = omega arith in
    let g : suc n - 1 ≡ n = omega arith in
    minus-of w 0 (suc n) r (ap (λ (x : ℕ). x % 2 ^ w) e ∙ sym (cut64 (2 ^ 64) w h)) ∙ minus-down w 0 (suc n) (omega arith)
    ∙ ap (λ (x : ℕ). 2 ^ w - 1 - x % 2 ^ w) g
