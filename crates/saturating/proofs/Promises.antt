-- The proofs of what specs/Promises.antt states.
-- Assumes nothing.
use mathlib.Core.Path.{◌≡◌, refl, sym, ap, ◌∙◌}
use mathlib.Core.Bool.{Bool, true, false}
use mathlib.Core.Logic.{◌≢◌}
use Prim.Native.Nat.{ℕ}
use native.Mathlib.Omega.{arith}
use lib.IntN.{ℤ, pos, negsuc}
use lib.Signed.{lt_z}
use borrow.Author.Tests.{le-ltb}
use Rattle.laws.specs.Choice.{either}
use Rattle.laws.proofs.Never.{wrong}
use Rattle.insn.specs.declared.Sign.{Sign}
use Rattle.arithmetic.specs.Whole.{read_as}
use Rattle.arithmetic.proofs.Order.{not-less}
use Rattle.saturating.specs.Range.{lowest, highest, clamp}
use Rattle.saturating.specs.Promises.{within, LaneWithin, WithinRead, MovedWithin, NotMoved, Nearest, OutsideMoved}
use Rattle.saturating.proofs.Ends.{top, bottom, top-is, bottom-is}
use Rattle.saturating.proofs.Tests.{read-within}
use Rattle.saturating.proofs.Sides.{from-below, from-above, not-moved}
use Rattle.saturating.proofs.Near.{inside, not-outside, read_again, nearest as none-nearer}

pub lane_within : LaneWithin
lane_within s w x z l = let e = read-within s w x z l in inside s w (read_as s w x) (sym e.0) (sym e.1)

pub within_read : WithinRead
within_read = read_again

-- the ends are in the range
ends-apart : (s : Sign) (w : ℕ) → lt_z (highest s w) (lowest s w) ≡ false
ends-apart s w = not-less (highest s w) (lowest s w) (top s w) 0 0 (bottom s w) (top-is s w) (bottom-is s w) (omega arith)

lowest-within : (s : Sign) (w : ℕ) → within s w (lowest s w) ≡ true
lowest-within s w =
    inside s w (lowest s w) (not-less (lowest s w) (lowest s w) 0 (bottom s w) 0 (bottom s w) (bottom-is s w) (bottom-is s w) (omega arith)) (ends-apart s w)

highest-within : (s : Sign) (w : ℕ) → within s w (highest s w) ≡ true
highest-within s w =
    inside s w (highest s w) (ends-apart s w) (not-less (highest s w) (highest s w) (top s w) 0 (top s w) 0 (top-is s w) (top-is s w) (omega arith))

pub moved_within : MovedWithin
moved_within s w z = by (lt_z z (lowest s w)) (lt_z (highest s w) z) refl refl
  where
    by : (t u : Bool) → lt_z z (lowest s w) ≡ t → lt_z (highest s w) z ≡ u → within s w (clamp s w z) ≡ true
    by true u p q = rw (from-below s w z p) (lowest-within s w)
    by false true p q = rw (from-above s w z p q) (highest-within s w)
    by false false p q = rw (not-moved s w z p q) (inside s w z p q)

pub not_moved : NotMoved
not_moved s w z e = let k = not-outside s w z e in not-moved s w z k.0 k.1

pub nearest : Nearest
nearest s w y z e = none-nearer s w y z e

less-self : (z : ℤ) → lt_z z z ≡ false
less-self (pos a) = le-ltb a a (omega arith)
less-self (negsuc a) = le-ltb a a (omega arith)

pub outside_moved : OutsideMoved
outside_moved s w z = by (lt_z z (lowest s w)) (lt_z (highest s w) z) refl refl
  where
    by : (t u : Bool) → lt_z z (lowest s w) ≡ t → lt_z (highest s w) z ≡ u → (either t u ≡ true → clamp s w z ≢ z) × (either t u ≡ false → clamp s w z ≡ z)
    by true u p q = (
      (λ e m. let k : lowest s w ≡ z = sym (from-below s w z p) ∙ m in wrong (sym (less-self z) ∙ ap (λ (y : ℤ). lt_z z y) (sym k) ∙ p)),
      λ e. wrong (sym e),
    )
    by false true p q = (
      (λ e m. let k : highest s w ≡ z = sym (from-above s w z p q) ∙ m in wrong (sym (less-self z) ∙ ap (λ (y : ℤ). lt_z y z) (sym k) ∙ q)),
      λ e. wrong (sym e),
    )
    by false false p q = ((λ e. wrong e), λ e. not-moved s w z p q)
