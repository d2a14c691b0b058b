-- Tests of sums and differences against the ends of the range, as the code has them; each law over the width and the sign.
-- Assumes nothing.
use mathlib.Core.Path.{◌≡◌, sym, ◌∙◌}
use mathlib.Core.Bool.{false}
use Prim.Native.Nat.{ℕ, ◌+◌, ◌-◌, ◌^◌, ◌≤◌, ◌<◌}
use native.Mathlib.Omega.{arith}
use lib.Dec.{ltb, leb}
use lib.IntN.{ℤ, ◌+ℤ◌, ◌-ℤ◌}
use lib.Signed.{lt_z}
use Rattle.laws.specs.Signed.{modulo}
use Rattle.insn.specs.declared.Sign.{Sign}
use Rattle.arithmetic.specs.Whole.{read_as}
use Rattle.arithmetic.proofs.Wholes.{Is}
use Rattle.arithmetic.proofs.Order.{is-plus, is-minus, not-less, less_as, less-at-most}
use Rattle.saturating.specs.Range.{lowest, highest}
use Rattle.saturating.proofs.Ends.{top, bottom, top-is, bottom-is, reach, top_lane, bottom-lane, weight, low, high, negative, read_is, bounds}

-- a whole number that is p - q
record Number : Type 0 where
  whole : ℤ
  p : ℕ
  q : ℕ
  is : Is whole p q

-- tests of it against the ends
module _ (s : Sign) (w : ℕ) (n : Number) where
  not-above : n.p ≤ top s w + n.q → false ≡ lt_z (highest s w) n.whole
  not-above l = sym (not-less (highest s w) n.whole (top s w) 0 n.p n.q (top-is s w) n.is (omega arith))

  above_as : (c d : ℕ) → (top s w + n.q < n.p → c < d) → (n.p ≤ top s w + n.q → d ≤ c) → ltb c d ≡ lt_z (highest s w) n.whole
  above_as c d f g = sym (less_as (highest s w) n.whole (top s w) 0 n.p n.q (top-is s w) n.is c d (λ l. f (omega arith)) (λ l. g (omega arith)))

  above-at-most : (c d : ℕ) → (top s w + n.q < n.p → c ≤ d) → (n.p ≤ top s w + n.q → d < c) → leb c d ≡ lt_z (highest s w) n.whole
  above-at-most c d f g =
      sym (less-at-most (highest s w) n.whole (top s w) 0 n.p n.q (top-is s w) n.is c d (λ l. f (omega arith)) (λ l. g (omega arith)))

  not-below : n.q ≤ n.p + bottom s w → false ≡ lt_z n.whole (lowest s w)
  not-below l = sym (not-less n.whole (lowest s w) n.p n.q 0 (bottom s w) n.is (bottom-is s w) (omega arith))

  below_as : (c d : ℕ) → (n.p + bottom s w < n.q → c < d) → (n.q ≤ n.p + bottom s w → d ≤ c) → ltb c d ≡ lt_z n.whole (lowest s w)
  below_as c d f g = sym (less_as n.whole (lowest s w) n.p n.q 0 (bottom s w) n.is (bottom-is s w) c d (λ l. f (omega arith)) (λ l. g (omega arith)))

  below-at-most : (c d : ℕ) → (n.p + bottom s w < n.q → c ≤ d) → (n.q ≤ n.p + bottom s w → d < c) → leb c d ≡ lt_z n.whole (lowest s w)
  below-at-most c d f g =
      sym (less-at-most n.whole (lowest s w) n.p n.q 0 (bottom s w) n.is (bottom-is s w) c d (λ l. f (omega arith)) (λ l. g (omega arith)))

-- what a lane is read as is in the range
pub read-within : (s : Sign) (w x : ℕ) → 0 < w → x < 2 ^ w → (false ≡ lt_z (read_as s w x) (lowest s w)) × (false ≡ lt_z (highest s w) (read_as s w x))
read-within s w x z l =
    let b = bounds w x z l s in
    let n : Number = record { whole = read_as s w x; p = x; q = weight s w x; is = read_is w x z l s } in
    (not-below s w n b.1, not-above s w n b.0)

-- the tests of the code, where t is the highest number as a lane
module _ (s : Sign) (w x y t : ℕ) (z : 0 < w) (lx : x < 2 ^ w) (ly : y < 2 ^ w) (e : t ≡ modulo w (highest s w)) where
  at_top : t ≡ top s w
  at_top = e ∙ top_lane s w z

  abbrev sum : Number
  sum = record {
    whole = read_as s w x +ℤ read_as s w y;
    p = x + y;
    q = weight s w x + weight s w y;
    is = is-plus (read_as s w x) (read_as s w y) x (weight s w x) y (weight s w y) (read_is w x z lx s) (read_is w y z ly s);
  }

  abbrev difference : Number
  difference = record {
    whole = read_as s w x -ℤ read_as s w y;
    p = x + weight s w y;
    q = weight s w x + y;
    is = is-minus (read_as s w x) (read_as s w y) x (weight s w x) y (weight s w y) (read_is w x z lx s) (read_is w y z ly s);
  }

  -- a sum above the range: neither is negative
  pub sum-above-x : t < x → false ≡ lt_z (highest s w) (read_as s w x +ℤ read_as s w y)
  sum-above-x h = let g = at_top in
      not-above s w sum (omega (arith, high s w x (omega arith), reach s w z, bounds w y z ly s))

  pub sum-above-y : t < y → false ≡ lt_z (highest s w) (read_as s w x +ℤ read_as s w y)
  sum-above-y h = let g = at_top in
      not-above s w sum (omega (arith, high s w y (omega arith), reach s w z, bounds w x z lx s))

  pub sum-above : x ≤ t → y ≤ t → ltb (t - y) x ≡ lt_z (highest s w) (read_as s w x +ℤ read_as s w y)
  sum-above h k =
      let g = at_top in
      let e0 = low s w x (omega arith) in
      let e1 = low s w y (omega arith) in
      above_as s w sum (t - y) x (λ l. omega arith) (λ l. omega arith)

  -- below it: both are
  pub sum-below-x : x ≤ t → false ≡ lt_z (read_as s w x +ℤ read_as s w y) (lowest s w)
  sum-below-x h = let g = at_top in
      not-below s w sum (omega (arith, low s w x (omega arith), bounds w y z ly s))

  pub sum-below-y : y ≤ t → false ≡ lt_z (read_as s w x +ℤ read_as s w y) (lowest s w)
  sum-below-y h = let g = at_top in
      not-below s w sum (omega (arith, low s w y (omega arith), bounds w x z lx s))

  pub sum_below : (o : ℕ) → o ≡ 2 ^ w - 1 → t < x → t < y → leb (x - t - 1) (o - y) ≡ lt_z (read_as s w x +ℤ read_as s w y) (lowest s w)
  sum_below o f h k =
      let g = at_top in
      let e0 = high s w x (omega arith) in
      let e1 = high s w y (omega arith) in
      let e2 = reach s w z in
      let e3 = negative s w x lx (omega arith) in
      below-at-most s w sum (x - t - 1) (o - y) (λ l. omega arith) (λ l. omega arith)

  -- a difference above the range: y alone is negative
  pub difference-above-x : t < x → false ≡ lt_z (highest s w) (read_as s w x -ℤ read_as s w y)
  difference-above-x h = let g = at_top in
      not-above s w difference (omega (arith, high s w x (omega arith), reach s w z, negative s w x lx (omega arith), bounds w y z ly s))

  pub difference-above-y : y ≤ t → false ≡ lt_z (highest s w) (read_as s w x -ℤ read_as s w y)
  difference-above-y h = let g = at_top in
      not-above s w difference (omega (arith, low s w y (omega arith), bounds w x z lx s))

  pub difference-above : x ≤ t → t < y → leb (y - t - 1) x ≡ lt_z (highest s w) (read_as s w x -ℤ read_as s w y)
  difference-above h k =
      let g = at_top in
      let e0 = low s w x (omega arith) in
      let e1 = high s w y (omega arith) in
      let e2 = reach s w z in
      let e3 = negative s w y ly (omega arith) in
      above-at-most s w difference (y - t - 1) x (λ l. omega arith) (λ l. omega arith)

  -- below it: y is not negative
  pub difference-below-y : t < y → false ≡ lt_z (read_as s w x -ℤ read_as s w y) (lowest s w)
  difference-below-y h = let g = at_top in
      not-below s w difference (omega (arith, high s w y (omega arith), bounds w x z lx s))

  pub difference-below-x : y ≤ t → t < x → ltb (x - t - 1) y ≡ lt_z (read_as s w x -ℤ read_as s w y) (lowest s w)
  difference-below-x h k =
      let g = at_top in
      let e0 = low s w y (omega arith) in
      let e1 = high s w x (omega arith) in
      let e2 = reach s w z in
      below_as s w difference (x - t - 1) y (λ l. omega arith) (λ l. omega arith)

  pub difference_below : (b : ℕ) → b ≡ modulo w (lowest s w) → y ≤ t → x ≤ t → ltb (x + b) y ≡ lt_z (read_as s w x -ℤ read_as s w y) (lowest s w)
  difference_below b f h k =
      let g = at_top in
      let d = f ∙ bottom-lane s w z in
      let e0 = low s w y (omega arith) in
      let e1 = low s w x (omega arith) in
      below_as s w difference (x + b) y (λ l. omega arith) (λ l. omega arith)
