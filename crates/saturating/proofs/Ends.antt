-- The ends of a lane's range, and what a lane is read as; each law over the width and the sign.
-- Assumes nothing.
use mathlib.Core.Path.{◌≡◌, refl, sym, ◌∙◌}
use Prim.Native.Nat.{ℕ, suc, ◌+◌, ◌-◌, ◌%◌, ◌^◌, ◌≤◌, ◌<◌}
use native.Mathlib.Nat.{mod-eq_of_lt, mod_self, zero-mod}
use native.Mathlib.Omega.{arith}
use lib.Dec.{ltb}
use lib.IntN.{pos}
use lib.Pow.{pow_pos}
use borrow.Author.Tests.{lt-ltb, le-ltb}
use Rattle.laws.specs.Choice.{choose}
use Rattle.laws.specs.Signed.{modulo}
use Rattle.laws.proofs.Signed.{twice_half, modulo-pos}
use Rattle.laws.proofs.Tests.{sides}
use Rattle.insn.specs.declared.Sign.{Sign}
use Rattle.insn.specs.declared.Sign.TheVariants.{Unsigned, Signed}
use Rattle.arithmetic.specs.Whole.{read_as}
use Rattle.arithmetic.proofs.Signs.{read_low, read-high}
use Rattle.arithmetic.proofs.Wholes.{Is, neg-up, neg-down}
use Rattle.arithmetic.proofs.Modulo.{from}
use Rattle.saturating.specs.Range.{lowest, highest}

-- how far the range goes above 0, and how far below
abbrev pub top : Sign → ℕ → ℕ
top Unsigned w = 2 ^ w - 1
top Signed w = 2 ^ (w - 1) - 1

abbrev pub bottom : Sign → ℕ → ℕ
bottom Unsigned w = 0
bottom Signed w = 2 ^ (w - 1)

pub top-is : (s : Sign) (w : ℕ) → Is (highest s w) (top s w) 0
unfolding highest
top-is Unsigned w = refl
top-is Signed w = refl

pub bottom-is : (s : Sign) (w : ℕ) → Is (lowest s w) 0 (bottom s w)
unfolding lowest
bottom-is Unsigned w = refl
bottom-is Signed w = omega (arith, neg-up (pos (2 ^ (w - 1))), neg-down (pos (2 ^ (w - 1))))

-- the range has 2^w numbers
pub reach : (s : Sign) (w : ℕ) → 0 < w → top s w + bottom s w + 1 ≡ 2 ^ w
reach Unsigned w z = let p = pow_pos w in omega arith
reach Signed w z =
    let p = pow_pos (w - 1) in
    let t = twice_half w z in
    omega arith

-- the ends as lanes
pub top_lane : (s : Sign) (w : ℕ) → 0 < w → modulo w (highest s w) ≡ top s w
unfolding highest
top_lane Unsigned w z = let r = reach Unsigned w z in modulo-pos w (2 ^ w - 1) (omega arith)
top_lane Signed w z = let r = reach Signed w z in modulo-pos w (2 ^ (w - 1) - 1) (omega arith)

full : (s : Sign) (w : ℕ) → 0 < w → (bottom s w + bottom s w) % 2 ^ w ≡ 0 % 2 ^ w
full Unsigned w z = refl
full Signed w z = rw (← twice_half w z) (mod_self (2 ^ w) ∙ sym (zero-mod (2 ^ w)))

pub bottom-lane : (s : Sign) (w : ℕ) → 0 < w → modulo w (lowest s w) ≡ bottom s w
bottom-lane s w z =
    let r = reach s w z in
    let p = pow_pos w in
    sym (from w (bottom s w) 0 (bottom s w) (lowest s w) (bottom-is s w) (full s w z)) ∙ mod-eq_of_lt (omega arith)

-- what a lane's number is too much by: 2^w where it stands for a negative one
abbrev pub weight : Sign → ℕ → ℕ → ℕ
weight s w x = choose (ltb (top s w) x) (2 ^ w) 0

module _ (s : Sign) (w x : ℕ) where
  pub low : x ≤ top s w → weight s w x ≡ 0
  low h = rw (le-ltb (top s w) x h)

  pub high : top s w < x → weight s w x ≡ 2 ^ w
  high h = rw (lt-ltb (top s w) x h)

-- a lane above the top is a signed one
pub negative : (s : Sign) (w x : ℕ) → x < 2 ^ w → top s w < x → bottom s w ≡ top s w + 1
negative Unsigned w x l h = omega arith
negative Signed w x l h = let p = pow_pos (w - 1) in omega arith

module _ (w x : ℕ) (z : 0 < w) (l : x < 2 ^ w) where
  pub read_is : (s : Sign) → Is (read_as s w x) x (weight s w x)
  unfolding read_as
  read_is Unsigned = rw (low Unsigned w x (omega arith))
  read_is Signed =
      sides (2 ^ (w - 1)) x (λ h. rw (read_low w x h, low Signed w x (omega arith)))
      (λ h. let p = pow_pos (w - 1) in
      rw (read-high w x l h, high Signed w x (omega arith)) (omega arith))

  pub bounds : (s : Sign) → (x ≤ top s w + weight s w x) × (weight s w x ≤ x + bottom s w)
  bounds s =
      sides (suc (top s w)) x
      (λ h. let e = low s w x (omega arith) in
      (omega arith, omega arith))
      (λ h. let e = high s w x (omega arith) in
      let r = reach s w z in
      (omega arith, omega arith))
