-- The laws of lane-wise operations, each over the widths of target and sources.
-- Assumes nothing.
use mathlib.Core.Path.{◌≡◌, refl, sym, ◌∙◌, ap}
use Prim.Native.Nat.{ℕ, zero, suc, ◌+◌, ◌*◌, ◌/◌, ◌%◌, ◌^◌, ◌<◌, zero-le, suc-le-suc}
use native.Mathlib.Nat.{mul-suc, mul-zero, zero-add, suc-add, mul_assoc, mul_comm, mul-add, add_assoc, add_comm, add-mul-mod_self_left, add-mul-div_left, div-lt_iff_lt-mul, div-eq_of_lt, mod-eq_of_lt, mod-lt, mod-one, one-mul, not-suc-le-zero, le_of_suc-le-suc, div-one}
use lib.Pow.{pow_pos, pow-add, shr-shr, mod-pow-add}
use lib.Arith.{lt-one, digits_lt}
use Rattle.lanes.specs.Lane.{lanewise}
use Rattle.lanes.specs.Promises.{lane_at}

-- 2^(w × (j+1)) is 2^w × 2^(w × j)
pow-suc : (w j : ℕ) → 2 ^ (w * suc j) ≡ 2 ^ w * 2 ^ (w * j)
pow-suc w j = ap (λ (e : ℕ). 2 ^ e) (mul-suc w j) ∙ pow-add 2 (w * j) w ∙ mul_comm (2 ^ (w * j)) (2 ^ w)

module _ (w j : ℕ) where
  step-mod : (a b : ℕ) → (a + 2 ^ (w * suc j) * b) % 2 ^ w ≡ a % 2 ^ w
  step-mod a b = rw (pow-suc, mul_assoc) (add-mul-mod_self_left a (2 ^ w) (2 ^ (w * j) * b))

  step-div : (a b : ℕ) → (a + 2 ^ (w * suc j) * b) / 2 ^ w ≡ a / 2 ^ w + 2 ^ (w * j) * b
  step-div a b = rw (pow-suc, mul_assoc) (add-mul-div_left a (2 ^ (w * j) * b) (pow_pos w))

  step-lt : (a : ℕ) → a < 2 ^ (w * suc j) → a / 2 ^ w < 2 ^ (w * j)
  step-lt a h = (div-lt_iff_lt-mul (pow_pos w)).1 (rw (pow-suc, mul_comm (2 ^ w)) at h)

zero-sum : (w a b : ℕ) → a < 2 ^ (w * 0) → a + 2 ^ (w * 0) * b ≡ b
zero-sum w a b h = rw (lt-one (rw mul-zero at h), mul-zero, one-mul, zero-add)

-- lane 0, and the lanes above it
pub at_zero : (w x : ℕ) → lane_at w 0 x ≡ x % 2 ^ w
at_zero w x = rw (mul-zero, div-one)

at_suc : (w i x : ℕ) → lane_at w (suc i) x ≡ lane_at w i (x / 2 ^ w)
at_suc w i x = rw (mul-suc, add_comm, ← shr-shr)

-- a lane of a number is one of its lowest j lanes, or of what stands above them
pub lane_below : (w j i a b : ℕ) → i < j → lane_at w i (a + 2 ^ (w * j) * b) ≡ lane_at w i a
lane_below w zero i a b h = absurd (not-suc-le-zero h)
lane_below w (suc j) zero a b h = at_zero w (a + 2 ^ (w * suc j) * b) ∙ step-mod w j a b ∙ sym (at_zero w a)
lane_below w (suc j) (suc i) a b h =
    at_suc w i (a + 2 ^ (w * suc j) * b) ∙ ap (lane_at w i) (step-div w j a b) ∙ lane_below w j i (a / 2 ^ w) b (le_of_suc-le-suc h)
    ∙ sym (at_suc w i a)

pub lane_above : (w j i a b : ℕ) → a < 2 ^ (w * j) → lane_at w (j + i) (a + 2 ^ (w * j) * b) ≡ lane_at w i b
lane_above w zero i a b h =
    ap (λ (k : ℕ). lane_at w k (a + 2 ^ (w * 0) * b)) (zero-add i) ∙ ap (lane_at w i) (zero-sum w a b h)
lane_above w (suc j) i a b h =
    ap (λ (k : ℕ). lane_at w k (a + 2 ^ (w * suc j) * b)) (suc-add j i) ∙ at_suc w (j + i) (a + 2 ^ (w * suc j) * b)
    ∙ ap (lane_at w (j + i)) (step-div w j a b) ∙ lane_above w j i (a / 2 ^ w) b (step-lt w j a h)

-- what is the same gives the same
pub same-result : (f : ℕ → ℕ → ℕ → ℕ) {d e n o m p : ℕ} → d ≡ e → n ≡ o → m ≡ p → f d n m ≡ f e o p
same-result f a b c = rw (a, b, c)

module _ (f : ℕ → ℕ → ℕ → ℕ) (wd wn wm : ℕ) where
  -- lanes on both sides of a lane boundary are taken apart there
  pub split : (j k a b c d e g : ℕ) → a < 2 ^ (wd * j) → c < 2 ^ (wn * j) → e < 2 ^ (wm * j)
      → lanewise f wd wn wm (j + k) (a + 2 ^ (wd * j) * b) (c + 2 ^ (wn * j) * d) (e + 2 ^ (wm * j) * g)
      ≡ lanewise f wd wn wm j a c e + 2 ^ (wd * j) * lanewise f wd wn wm k b d g
  unfolding lanewise
  split zero k a b c d e g ha hc he =
      rw (zero-sum wd a b ha, zero-sum wn c d hc, zero-sum wm e g he, zero-add, mul-zero, one-mul, zero-add)
  split (suc j) k a b c d e g ha hc he =
      rw (
        suc-add,
        step-mod wd j a b,
        step-mod wn j c d,
        step-mod wm j e g,
        step-div wd j a b,
        step-div wn j c d,
        step-div wm j e g,
        split j k (a / 2 ^ wd) b (c / 2 ^ wn) d (e / 2 ^ wm) g (step-lt wd j a ha) (step-lt wn j c hc) (step-lt wm j e he),
        pow-suc,
        mul-add,
        mul_assoc,
        add_assoc,
      )

  -- k lanes below k lanes, which are z, zn and zm bits of the operands
  pub halves : (k z zn zm a b c d e g : ℕ) → wd * k ≡ z → wn * k ≡ zn → wm * k ≡ zm → a < 2 ^ z → c < 2 ^ zn → e < 2 ^ zm
      → lanewise f wd wn wm (k + k) (a + 2 ^ z * b) (c + 2 ^ zn * d) (e + 2 ^ zm * g) ≡ lanewise f wd wn wm k a c e + 2 ^ z * lanewise f wd wn wm k b d g
  halves k z zn zm a b c d e g p q r ha hc he = rw (← p, ← q, ← r) (split k k a b c d e g (rw (← p) at ha) (rw (← q) at hc) (rw (← r) at he))

-- where f gives a lane
module _ (f : ℕ → ℕ → ℕ → ℕ) (wd wn wm : ℕ) (b : (d n m : ℕ) → f d n m < 2 ^ wd) where
  -- k lanes of wd bits have wd × k bits
  pub lanes-lt : (k d n m : ℕ) → lanewise f wd wn wm k d n m < 2 ^ (wd * k)
  unfolding lanewise
  lanes-lt zero d n m = pow_pos (wd * 0)
  lanes-lt (suc k) d n m =
      let q = digits_lt (lanes-lt k (d / 2 ^ wd) (n / 2 ^ wn) (m / 2 ^ wm)) (b (d % 2 ^ wd) (n % 2 ^ wn) (m % 2 ^ wm)) in
      rw (pow-suc, mul_comm (2 ^ wd), add_comm, mul_comm (2 ^ wd)) q

  -- lane i of the result comes from lane i of each operand
  pub each : (k i d n m : ℕ) → i < k → lane_at wd i (lanewise f wd wn wm k d n m) ≡ f (lane_at wd i d) (lane_at wn i n) (lane_at wm i m)
  unfolding lanewise
  each zero i d n m h = absurd (not-suc-le-zero h)
  each (suc k) zero d n m h =
      rw (at_zero wd, at_zero wd d, at_zero wn n, at_zero wm m, add-mul-mod_self_left) (mod-eq_of_lt (b (d % 2 ^ wd) (n % 2 ^ wn) (m % 2 ^ wm)))
  each (suc k) (suc i) d n m h =
      let z = pow_pos wd in
      let l = b (d % 2 ^ wd) (n % 2 ^ wn) (m % 2 ^ wm) in
      rw (at_suc wd, at_suc wd i d, at_suc wn i n, at_suc wm i m, add-mul-div_left, div-eq_of_lt l, zero-add)
      (each k i (d / 2 ^ wd) (n / 2 ^ wn) (m / 2 ^ wm) (le_of_suc-le-suc h))

-- results that agree at every lane are the same
pub same : (f g : ℕ → ℕ → ℕ → ℕ) (wd wn wm k d n m d' n' m' : ℕ)
    → ((i : ℕ) → i < k → f (lane_at wd i d) (lane_at wn i n) (lane_at wm i m) ≡ g (lane_at wd i d') (lane_at wn i n') (lane_at wm i m'))
    → lanewise f wd wn wm k d n m ≡ lanewise g wd wn wm k d' n' m'
unfolding lanewise
same f g wd wn wm zero d n m d' n' m' h = refl
same f g wd wn wm (suc k) d n m d' n' m' h =
    let e = simp at_zero at (h 0 (suc-le-suc zero-le)) in
    rw (
      e,
      same f g wd wn wm k (d / 2 ^ wd) (n / 2 ^ wn) (m / 2 ^ wm) (d' / 2 ^ wd) (n' / 2 ^ wn) (m' / 2 ^ wm)
          (λ i l. simp at_suc at (h (suc i) (suc-le-suc l))),
    )

-- lanes that are left as they are
pub kept : (f : ℕ → ℕ → ℕ → ℕ) (w : ℕ) → ((d n m : ℕ) → n < 2 ^ w → f d n m ≡ n) → (k d n m : ℕ) → lanewise f w w w k d n m ≡ n % 2 ^ (w * k)
unfolding lanewise
kept f w h zero d n m = rw mul-zero (sym (mod-one n))
kept f w h (suc k) d n m =
    rw (h (d % 2 ^ w) (n % 2 ^ w) (m % 2 ^ w) (mod-lt _ (pow_pos w)), kept f w h k (d / 2 ^ w) (n / 2 ^ w) (m / 2 ^ w), mul-suc, mod-pow-add n (w * k) w)
    (add_comm (n % 2 ^ w) _ ∙ ap (λ (x : ℕ). x + n % 2 ^ w) (mul_comm (2 ^ w) (n / 2 ^ w % 2 ^ (w * k))))

-- lanes of the target that are left as they are
pub own : (wd wn wm k d n m : ℕ) → lanewise (λ (d n m : ℕ). d) wd wn wm k d n m ≡ d % 2 ^ (wd * k)
unfolding lanewise
own wd wn wm zero d n m = rw mul-zero (sym (mod-one d))
own wd wn wm (suc k) d n m =
    rw (own wd wn wm k (d / 2 ^ wd) (n / 2 ^ wn) (m / 2 ^ wm), mul-suc, mod-pow-add d (wd * k) wd)
    (add_comm (d % 2 ^ wd) _ ∙ ap (λ (x : ℕ). x + d % 2 ^ wd) (mul_comm (2 ^ wd) (d / 2 ^ wd % 2 ^ (wd * k))))
