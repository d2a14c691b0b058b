-- A number by the side of the range that it is on, and its lane.
-- Assumes nothing.
use mathlib.Core.Path.{◌≡◌, sym, ◌∙◌, ap}
use mathlib.Core.Bool.{Bool, true, false}
use Prim.Native.Nat.{ℕ, ◌^◌, ◌<◌}
use native.Mathlib.Nat.{mod-eq_of_lt}
use lib.IntN.{ℤ, pos}
use lib.Signed.{lt_z}
use Rattle.laws.specs.Signed.{modulo}
use Rattle.insn.specs.declared.Sign.{Sign}
use Rattle.arithmetic.specs.Whole.{read_as}
use Rattle.arithmetic.proofs.Signs.{again}
use Rattle.arithmetic.proofs.Modulo.{Congruent, plus, minus}
use Rattle.saturating.specs.declared.SaturatingOp.{SaturatingOp}
use Rattle.saturating.specs.declared.SaturatingOp.TheVariants.{Qadd, Qsub}
use Rattle.saturating.specs.Range.{lowest, highest, clamp, exact_saturating}

module _ (s : Sign) (w : ℕ) (z : ℤ) where
  pub from-below : lt_z z (lowest s w) ≡ true → clamp s w z ≡ lowest s w
  unfolding clamp
  from-below p = rw p

  pub from-above : lt_z z (lowest s w) ≡ false → lt_z (highest s w) z ≡ true → clamp s w z ≡ highest s w
  unfolding clamp
  from-above p q = rw (p, q)

  pub not-moved : lt_z z (lowest s w) ≡ false → lt_z (highest s w) z ≡ false → clamp s w z ≡ z
  unfolding clamp
  not-moved p q = rw (p, q)

-- the lane of the number, by what two tests found of it
module _ (s : Sign) (w : ℕ) (z : ℤ) {low : Bool} {r : ℕ} (p : low ≡ lt_z z (lowest s w)) where
  pub low-lane : low ≡ true → r ≡ modulo w (lowest s w) → r ≡ modulo w (clamp s w z)
  low-lane t e = e ∙ ap (modulo w) (sym (from-below s w z (sym p ∙ t)))

  module _ {high : Bool} (q : high ≡ lt_z (highest s w) z) (f : low ≡ false) where
    pub high_lane : high ≡ true → r ≡ modulo w (highest s w) → r ≡ modulo w (clamp s w z)
    high_lane t e = e ∙ ap (modulo w) (sym (from-above s w z (sym p ∙ f) (sym q ∙ t)))

    pub own_lane : high ≡ false → r ≡ modulo w z → r ≡ modulo w (clamp s w z)
    own_lane t e = e ∙ ap (modulo w) (sym (not-moved s w z (sym p ∙ f) (sym q ∙ t)))

-- the lane of the exact result is that of the lanes' numbers from 0
pub from_zero : (op : SaturatingOp) (s : Sign) (w x y : ℕ) → x < 2 ^ w → y < 2 ^ w
    → modulo w (exact_saturating op (pos x) (pos y)) ≡ modulo w (exact_saturating op (read_as s w x) (read_as s w y))
unfolding modulo
from_zero op s w x y lx ly = by op
  where
    p : Congruent w x (read_as s w x)
    p = mod-eq_of_lt lx ∙ sym (again s w x lx)

    q : Congruent w y (read_as s w y)
    q = mod-eq_of_lt ly ∙ sym (again s w y ly)

    by : (op : SaturatingOp) → modulo w (exact_saturating op (pos x) (pos y)) ≡ modulo w (exact_saturating op (read_as s w x) (read_as s w y))
    by Qadd = plus w x y (read_as s w x) (read_as s w y) p q
    by Qsub = minus w x y (read_as s w x) (read_as s w y) p q
