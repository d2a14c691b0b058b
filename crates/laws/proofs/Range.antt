-- Two functions that agree at every number below n, shown by one computation: the lists of their values are the same list.
-- Assumes nothing.
use mathlib.Core.Path.{◌≡◌}
use mathlib.Core.List.{List, [], ◌∷◌}
use Prim.Native.Nat.{ℕ, zero, suc, ◌+◌, ◌-◌, ◌*◌, ◌/◌, ◌%◌, ◌<◌, ◌≤◌}
use lib.Arith.{digits_lt, digits_div, digits_mod}
use native.Mathlib.Omega.{arith}
use native.Mathlib.Nat.{add-zero, zero-add, add-suc, suc-add, le_of_suc-le-suc, not-suc-le-zero}

-- the values of f at i, i + 1, .., n of them
unfoldable pub values : {A : Type 0} → (ℕ → A) → ℕ → ℕ → List A
values f i zero = []
values f i (suc n) = f i ∷ values f (suc i) n

from : {A : Type 0} (f g : ℕ → A) (i n : ℕ) → values f i n ≡ values g i n → (k : ℕ) → k < n → f (i + k) ≡ g (i + k)
unfolding values
from f g i zero e k h = absurd (not-suc-le-zero h)
from f g i (suc n) e zero h = rw add-zero (cc)
from f g i (suc n) e (suc k) h = rw (add-suc, ← suc-add) (from f g (suc i) n (cc) k (le_of_suc-le-suc h))

-- at every number from lo to lo + n
pub agree-from : {A : Type 0} (f g : ℕ → A) (lo n : ℕ) → values f lo n ≡ values g lo n → (k : ℕ) → lo ≤ k → k < lo + n → f k ≡ g k
agree-from f g lo n e k h l = let same : lo + (k - lo) ≡ k = omega arith in rw same at (from f g lo n e (k - lo) (omega arith))

-- at every number below n
pub agree : {A : Type 0} (f g : ℕ → A) (n : ℕ) → values f 0 n ≡ values g 0 n → (k : ℕ) → k < n → f k ≡ g k
agree f g n e k h = rw zero-add at (from f g 0 n e k h)

-- at every number below n and every number below m
pub agree2 : {A : Type 0} (f g : ℕ → ℕ → A) (n m : ℕ)
    → values (λ (t : ℕ). f (t / m) (t % m)) 0 (n * m) ≡ values (λ (t : ℕ). g (t / m) (t % m)) 0 (n * m)
    → (i j : ℕ) → i < n → j < m → f i j ≡ g i j
agree2 f g n m e i j hi hj =
    rw (digits_div i hj, digits_mod i hj) at
    (agree (λ (t : ℕ). f (t / m) (t % m)) (λ (t : ℕ). g (t / m) (t % m)) (n * m) e (i * m + j) (digits_lt hi hj))
