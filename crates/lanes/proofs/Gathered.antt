-- A word that is put together lane by lane, from the lowest up.
-- Assumes nothing.
use Rattle.std.proofs.Common.{◌≡◌, ℕ, suc, ◌+◌, ◌*◌, ◌%◌, ◌^◌, ◌<◌, ◌≤◌, sym, ap, ◌∙◌, subst, add-zero, lt_of_lt_of_le, mod-eq_of_lt, mul-le-mul_left, arith, pow_mono, pow-add}
use native.Mathlib.Nat.{mul-suc}
use borrow.Author.Count.{below_more}
use Rattle.arithmetic.proofs.Numbers.{placed}
use Rattle.lanes.specs.Promises.{lane_at}
use Rattle.lanes.specs.Lane.{lanewise}
use Rattle.lanes.proofs.Lanewise.{at_zero, lane_below, lane_above, own, same}

-- one more lane r, above the i lanes of out
module _ (w i k out r : ℕ) (p : i < k) (q : w * k ≤ 64) (h : out < 2 ^ (w * i)) (l : r < 2 ^ w) where
  room : w * i + w ≤ 64
  room = let m : w * suc i ≤ w * k = mul-le-mul_left w p in omega (arith, mul-suc w i)

  abbrev next : ℕ
  next = out + (r * 2 ^ (w * i)) % 2 ^ 64

  next_is : next ≡ out + 2 ^ (w * i) * r
  next_is = ap (λ (n : ℕ). out + n) (placed w (w * i) r room l)

  pub below : next < 2 ^ (w * (i + 1))
  below =
      let m : 2 ^ (w * i) * suc r ≤ 2 ^ (w * i) * 2 ^ w = mul-le-mul_left (2 ^ (w * i)) l in
      let e : w * (i + 1) ≡ w * i + w = omega (arith, mul-suc w i) in
      rw e (omega (arith, next_is, pow-add 2 (w * i) w, mul-suc (2 ^ (w * i)) r))

  pub fits : next < 2 ^ 64
  fits =
      let e : w * (i + 1) ≡ w * i + w = omega (arith, mul-suc w i) in
      lt_of_lt_of_le below (pow_mono {i = w * (i + 1)} {j = 64} (omega (arith, room)))

  pub each : (P : ℕ → ℕ → Type 0) → ((j : ℕ) → j < i → P j (lane_at w j out)) → P i r → (j : ℕ) → j < i + 1 → P j (lane_at w j next)
  each P f x =
      let top : lane_at w i next ≡ r =
      ap (lane_at w i) next_is ∙ ap (λ (j : ℕ). lane_at w j (out + 2 ^ (w * i) * r)) (sym (add-zero i)) ∙ lane_above w i 0 out r h ∙ at_zero w r ∙ mod-eq_of_lt l
      in
      below_more (λ (j : ℕ). P j (lane_at w j next)) i
      (λ j b. subst (P j) (sym (ap (lane_at w j) next_is ∙ lane_below w i j out r b)) (f j b))
      (subst (P i) (sym top) x)

-- it is what its lanes are
pub gathered : (f : ℕ → ℕ → ℕ → ℕ) (wd wn wm k d n m x : ℕ) → x < 2 ^ (wd * k)
    → ((i : ℕ) → i < k → lane_at wd i x ≡ f (lane_at wd i d) (lane_at wn i n) (lane_at wm i m)) → x ≡ lanewise f wd wn wm k d n m
gathered f wd wn wm k d n m x l h =
    sym (own wd wn wm k x n m ∙ mod-eq_of_lt l) ∙ same (λ (d n m : ℕ). d) f wd wn wm k x n m d n m h
