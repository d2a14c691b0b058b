-- Whether a number below a bound passes a test: in two parts, and by the number that does.
-- Assumes nothing.
use mathlib.Core.Path.{◌≡◌, refl, sym, ap, ◌∙◌}
use mathlib.Core.Bool.{Bool, true, false}
use Prim.Native.Nat.{ℕ, zero, suc, ◌+◌, ◌<◌}
use native.Mathlib.Nat.{add-zero, add-suc, not-suc-le-zero}
use native.Mathlib.Omega.{arith}
use lib.Dec.{eqb}
use borrow.Author.Tests.{eqb-true, eqb-false}
use Rattle.laws.specs.Choice.{either}
use Rattle.laws.specs.Search.{some_below}
use Rattle.laws.proofs.Never.{wrong}

-- tests in any order
pub either-none : (a : Bool) → either a false ≡ a
either-none true = refl
either-none false = refl

either-yes : (a : Bool) → either a true ≡ true
either-yes true = refl
either-yes false = refl

pub either-apart : (a b c : Bool) → either (either a b) c ≡ either a (either b c)
either-apart true b c = refl
either-apart false b c = refl

swapped : (a b c : Bool) → either a (either b c) ≡ either b (either a c)
swapped true b c = sym (either-yes b)
swapped false b c = refl

module _ (p : ℕ → Bool) where
  -- the first j numbers and the k after them
  pub some-apart : (j k : ℕ) → some_below (j + k) p ≡ either (some_below j p) (some_below k (λ i. p (j + i)))
  unfolding some_below
  some-apart j zero = rw add-zero (sym (either-none (some_below j p)))
  some-apart j (suc k) =
      rw (add-suc, some-apart j k) (swapped (p (j + k)) (some_below j p) (some_below k (λ i. p (j + i))))

-- tests that agree
pub some_same : (p q : ℕ → Bool) (n : ℕ) → ((i : ℕ) → i < n → p i ≡ q i) → some_below n p ≡ some_below n q
unfolding some_below
some_same p q zero same = refl
some_same p q (suc n) same = rw (same n (omega arith), some_same p q n (λ i h. same i (omega arith)))

-- a number below the bound that passes
pub record Passing (p : ℕ → Bool) (n : ℕ) : Type 0 where
  pub at : ℕ
  pub below : at < n
  pub passes : p at ≡ true

pub some-found : (p : ℕ → Bool) (n : ℕ) → some_below n p ≡ true → Passing p n
unfolding some_below
some-found p zero e = wrong e
some-found p (suc n) e = by (p n) refl e (some-found p n)
  where
    by : (t : Bool) → p n ≡ t → either t (some_below n p) ≡ true → (some_below n p ≡ true → Passing p n) → Passing p (suc n)
    by true h f rest = record { at = n; below = omega arith; passes = h }
    by false h f rest = let r = rest f in let l = r.below in record { at = r.at; below = omega arith; passes = r.passes }

pub some-there : (p : ℕ → Bool) (n : ℕ) → Passing p n → some_below n p ≡ true
unfolding some_below
some-there p zero r = absurd (not-suc-le-zero r.below)
some-there p (suc n) r = by (eqb r.at n) refl (some-there p n)
  where
    by : (t : Bool) → eqb r.at n ≡ t → (Passing p n → some_below n p ≡ true) → either (p n) (some_below n p) ≡ true
    by true e rest = rw (sym (ap p (eqb-true r.at n e)) ∙ r.passes)
    by false e rest =
        let other = eqb-false r.at n e in
        let l = r.below in
        rw (rest (record { at = r.at; below = omega arith; passes = r.passes })) (either-yes (p n))
