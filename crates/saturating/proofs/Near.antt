-- Numbers in the range, and how far they are from one outside it.
-- Assumes nothing.
use mathlib.Core.Path.{◌≡◌, refl, sym, ◌∙◌}
use mathlib.Core.Bool.{Bool, true, false}
use Prim.Native.Nat.{ℕ, ◌+◌, ◌-◌, ◌^◌, ◌≤◌, ◌<◌}
use native.Mathlib.Omega.{arith}
use lib.IntN.{ℤ, pos, negsuc, nat_abs, ◌-ℤ◌}
use lib.Pow.{pow_pos}
use lib.Signed.{lt_z, le_z, mag}
use Rattle.laws.specs.Signed.{modulo}
use Rattle.laws.proofs.Signed.{modulo-pos}
use Rattle.laws.proofs.Promises.{number_back}
use Rattle.laws.proofs.Tests.{both_true, not-holds}
use Rattle.insn.specs.declared.Sign.{Sign}
use Rattle.insn.specs.declared.Sign.TheVariants.{Unsigned, Signed}
use Rattle.arithmetic.specs.Whole.{read_as}
use Rattle.arithmetic.proofs.Signs.{le_not_lt}
use Rattle.arithmetic.proofs.Wholes.{up, down, Is}
use Rattle.arithmetic.proofs.Order.{is-minus, less-than, at_least}
use Rattle.saturating.specs.Range.{lowest, highest, clamp}
use Rattle.saturating.specs.Promises.{within}
use Rattle.saturating.proofs.Ends.{top, bottom, top-is, bottom-is}
use Rattle.saturating.proofs.Sides.{from-below, from-above, not-moved}

-- in the range is neither below nor above it
module _ (s : Sign) (w : ℕ) (z : ℤ) where
  pub inside : lt_z z (lowest s w) ≡ false → lt_z (highest s w) z ≡ false → within s w z ≡ true
  inside p q = rw (le_not_lt z (lowest s w), le_not_lt (highest s w) z, p, q)

  pub not-outside : within s w z ≡ true → (lt_z z (lowest s w) ≡ false) × (lt_z (highest s w) z ≡ false)
  not-outside e = go (both_true _ _ e)
    where
      go : (le_z (lowest s w) z ≡ true) × (le_z z (highest s w) ≡ true) → (lt_z z (lowest s w) ≡ false) × (lt_z (highest s w) z ≡ false)
      go k = (
        not-holds (lt_z z (lowest s w)) (sym (le_not_lt z (lowest s w)) ∙ k.0),
        not-holds (lt_z (highest s w) z) (sym (le_not_lt (highest s w) z) ∙ k.1),
      )

  between : within s w z ≡ true → (up z ≤ top s w + down z) × (down z ≤ up z + bottom s w)
  between e =
      let k = not-outside e in
      let a = at_least z (lowest s w) (up z) (down z) 0 (bottom s w) refl (bottom-is s w) k.0 in
      let b = at_least (highest s w) z (top s w) 0 (up z) (down z) (top-is s w) refl k.1 in
      (omega arith, omega arith)

-- so that it is what its w bits are read as
pub read_again : (s : Sign) (w : ℕ) (z : ℤ) → 0 < w → within s w z ≡ true → read_as s w (modulo w z) ≡ z
unfolding read_as
read_again Unsigned w (pos n) l e =
    let b = between Unsigned w (pos n) e in
    let p = pow_pos w in
    rw (modulo-pos w n (omega arith))
read_again Unsigned w (negsuc n) l e = let b = between Unsigned w (negsuc n) e in absurd (omega arith)
read_again Signed w z l e = number_back w z l (fits z (between Signed w z e))
  where
    fits : (z : ℤ) → (up z ≤ top Signed w + down z) × (down z ≤ up z + bottom Signed w) → mag z < 2 ^ (w - 1)
    fits (pos n) b = let p = pow_pos (w - 1) in omega arith
    fits (negsuc n) b = omega arith

-- how far p is from q
far-up : (v : ℤ) (p q : ℕ) → Is v p q → q ≤ p → nat_abs v + q ≡ p
far-up (pos n) p q h l = omega arith
far-up (negsuc n) p q h l = omega arith

far-down : (v : ℤ) (p q : ℕ) → Is v p q → p ≤ q → nat_abs v + p ≡ q
far-down (pos n) p q h l = omega arith
far-down (negsuc n) p q h l = omega arith

-- none in the range is nearer
module _ (s : Sign) (w : ℕ) (y z : ℤ) (e : within s w y ≡ true) where
  apart : Is (y -ℤ z) (up y + down z) (down y + up z)
  apart = is-minus y z (up y) (down y) (up z) (down z) refl refl

  near : (t u : Bool) → lt_z z (lowest s w) ≡ t → lt_z (highest s w) z ≡ u → nat_abs (clamp s w z -ℤ z) ≤ nat_abs (y -ℤ z)
  near true u p q =
      let b = between s w y e in
      let l = less-than z (lowest s w) (up z) (down z) 0 (bottom s w) refl (bottom-is s w) p in
      let a = far-up (lowest s w -ℤ z) (0 + down z) (bottom s w + up z)
      (is-minus (lowest s w) z 0 (bottom s w) (up z) (down z) (bottom-is s w) refl) (omega arith) in
      let c = far-up (y -ℤ z) (up y + down z) (down y + up z) apart (omega arith) in
      rw (from-below s w z p) (omega arith)
  near false true p q =
      let b = between s w y e in
      let l = less-than (highest s w) z (top s w) 0 (up z) (down z) (top-is s w) refl q in
      let a = far-down (highest s w -ℤ z) (top s w + down z) (0 + up z)
      (is-minus (highest s w) z (top s w) 0 (up z) (down z) (top-is s w) refl) (omega arith) in
      let c = far-down (y -ℤ z) (up y + down z) (down y + up z) apart (omega arith) in
      rw (from-above s w z p q) (omega arith)
  near false false p q =
      let a = far-up (z -ℤ z) (up z + down z) (down z + up z) (is-minus z z (up z) (down z) (up z) (down z) refl refl) (omega arith) in
      rw (not-moved s w z p q) (omega arith)

  pub nearest : nat_abs (clamp s w z -ℤ z) ≤ nat_abs (y -ℤ z)
  nearest = near (lt_z z (lowest s w)) (lt_z (highest s w) z) refl refl
