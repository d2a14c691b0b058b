-- The laws of decimal text: two digits at the end for each division by 100, and how long it is.
-- Assumes nothing.
use mathlib.Core.Path.{◌≡◌, refl, ap, sym, ◌∙◌}
use mathlib.Core.List.{List, [], ◌∷◌, ◌++◌, append_assoc}
use mathlib.Core.Bool.{Bool, true, false}
use Prim.Native.Nat.{ℕ, zero, suc, ◌+◌, ◌/◌, ◌%◌, ◌^◌, ◌<◌, ◌≤◌}
use native.Mathlib.Nat.{add-zero, not-suc-le-zero, pow-succ'}
use native.Mathlib.Omega.{arith}
use lib.Dec.{ltb, leb}
use borrow.Author.Tests.{ltb-true, ltb-false, leb-true, leb-false}
use lib.ListN.{length, set, length-append}
use mir.Val.{bool_byte}
use Rattle.laws.specs.Placed.{Placed}
use Rattle.text.specs.Text.{digits, decimal}
use Rattle.laws.proofs.Placed.{one, then, over, widen}

digits-zero : (f : ℕ) → digits f 0 ≡ []
unfolding digits
digits-zero zero = refl
digits-zero (suc f) = refl

-- more digits than there are make no difference
same : (f g n : ℕ) → n ≤ f → n ≤ g → digits f n ≡ digits g n
unfolding digits
same zero g zero hf hg = sym (digits-zero g)
same zero g (suc n) hf hg = absurd (not-suc-le-zero hf)
same (suc f) zero zero hf hg = refl
same (suc f) zero (suc n) hf hg = absurd (not-suc-le-zero hg)
same (suc f) (suc g) zero hf hg = refl
same (suc f) (suc g) (suc n) hf hg = ap (λ (l : List ℕ). l ++ ((48 + suc n % 10) ∷ [])) (same f g (suc n / 10) (omega arith) (omega arith))

as-decimal : (f q : ℕ) → 0 < q → q ≤ f → digits f q ≡ decimal q
unfolding digits decimal
as-decimal f zero hz h = absurd (not-suc-le-zero hz)
as-decimal zero (suc m) hz h = absurd (not-suc-le-zero h)
as-decimal (suc f) (suc m) hz h = ap (λ (l : List ℕ). l ++ ((48 + suc m % 10) ∷ [])) (same f (suc m) (suc m / 10) (omega arith) (omega arith))

pub decimal-one : (n : ℕ) → n < 10 → decimal n ≡ (48 + n) ∷ []
unfolding decimal
decimal-one n h =
    let q : n / 10 ≡ 0 = omega arith in
    let r : n % 10 ≡ n = omega arith in
    rw (q, r, digits-zero)

decimal-more : (n : ℕ) → 10 ≤ n → decimal n ≡ decimal (n / 10) ++ ((48 + n % 10) ∷ [])
unfolding decimal
decimal-more n h = ap (λ (l : List ℕ). l ++ ((48 + n % 10) ∷ [])) (as-decimal n (n / 10) (omega arith) (omega arith))

pub decimal-two : (n : ℕ) → 10 ≤ n → n < 100 → decimal n ≡ (48 + n / 10) ∷ (48 + n % 10) ∷ []
decimal-two n h k = decimal-more n h ∙ ap (λ (l : List ℕ). l ++ ((48 + n % 10) ∷ [])) (decimal-one (n / 10) (omega arith))

pub decimal-hundred : (n : ℕ) → 100 ≤ n → decimal n ≡ decimal (n / 100) ++ (48 + n % 100 / 10) ∷ (48 + n % 100 % 10) ∷ []
decimal-hundred n h =
    let q : n / 10 / 10 ≡ n / 100 = omega arith in
    let r : n / 10 % 10 ≡ n % 100 / 10 = omega arith in
    let s : n % 10 ≡ n % 100 % 10 = omega arith in
    decimal-more n (omega arith)
    ∙ ap (λ (l : List ℕ). l ++ ((48 + n % 10) ∷ [])) (decimal-more (n / 10) (omega arith))
    ∙ append_assoc (decimal (n / 10 / 10)) ((48 + n / 10 % 10) ∷ []) ((48 + n % 10) ∷ [])
    ∙ rw (q, r, s)

pub decimal-myriad : (n : ℕ) → 10000 ≤ n →
    decimal n ≡ decimal (n / 10000) ++ (48 + n % 10000 / 100 / 10) ∷ (48 + n % 10000 / 100 % 10) ∷ (48 + n % 10000 % 100 / 10) ∷ (48 + n % 10000 % 100 % 10) ∷ []
decimal-myriad n h =
    let q : n / 100 / 100 ≡ n / 10000 = omega arith in
    let r : n / 100 % 100 ≡ n % 10000 / 100 = omega arith in
    let s : n % 100 ≡ n % 10000 % 100 = omega arith in
    decimal-hundred n (omega arith)
    ∙ ap (λ (l : List ℕ). l ++ ((48 + n % 100 / 10) ∷ (48 + n % 100 % 10) ∷ [])) (decimal-hundred (n / 100) (omega arith))
    ∙ append_assoc (decimal (n / 100 / 100)) ((48 + n / 100 % 100 / 10) ∷ (48 + n / 100 % 100 % 10) ∷ []) ((48 + n % 100 / 10) ∷ (48 + n % 100 % 10) ∷ [])
    ∙ rw (q, r, s)

-- a number below 10^k has at most k digits
pub within : (k n : ℕ) → n < 10 ^ suc k → length (decimal n) ≤ suc k
within zero n h = rw (decimal-one n h) (omega arith)
within (suc k) n h = go (ltb n 10) refl (within k (n / 10) (omega (arith, pow-succ' 10 (suc k))))
  where
    go : (b : Bool) → ltb n 10 ≡ b → length (decimal (n / 10)) ≤ suc k → length (decimal n) ≤ suc (suc k)
    go true e i = rw (decimal-one n (ltb-true n 10 e)) (omega arith)
    go false e i = rw (decimal-more n (ltb-false n 10 e), length-append) (omega arith)

pub twenty : (n : ℕ) → n < 2 ^ 64 → length (decimal n) ≤ 20
twenty n h = within 19 n (omega arith)

-- two digits, of which the last is put over the first where that is a leading 0
pub small : {l l' l'' : List ℕ} {i w : ℕ} (n : ℕ) → n < 100 → w ≡ bool_byte (leb 10 n) → l' ≡ set l i (48 + n / 10)
    → l'' ≡ set l' (i + w) (48 + n % 10) → Placed 2 l i (decimal n) l'' (i + w + 1)
small {l = l} {l'' = l''} {i = i} {w = w} n h e s q = go (leb 10 n) refl
  where
    first : Placed 1 l i ((48 + n / 10) ∷ []) (set l i (48 + n / 10)) (i + 1)
    first = one l i (48 + n / 10)

    second : Placed 1 (set l i (48 + n / 10)) (i + w) ((48 + n % 10) ∷ []) l'' (i + w + 1)
    second = rw (q, s) (one (set l i (48 + n / 10)) (i + w) (48 + n % 10))

    go : (b : Bool) → leb 10 n ≡ b → Placed 2 l i (decimal n) l'' (i + w + 1)
    go true t =
        rw (decimal-two n (leb-true 10 n t) h, e, t) (then first (rw (e, t) at second))
    go false t =
        let b : n < 10 = leb-false 10 n t in
        let m : n % 10 ≡ n = omega arith in
        rw (decimal-one n b, e, t, add-zero) (widen (omega arith) (over first (rw (e, t, add-zero, m) at second)))
