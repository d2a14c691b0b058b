-- A fact at every number below n, given one by one.
-- Assumes nothing.
use Prim.Native.Nat.{ℕ, zero, suc, ◌<◌}
use native.Mathlib.Nat.{le_of_suc-le-suc, not-suc-le-zero}

-- P 0, P 1, .., n of them
abbrev pub All : (ℕ → Type 0) → ℕ → Type 0
All P zero = Unit {0}
All P (suc n) = P 0 × All (λ (k : ℕ). P (suc k)) n

pub each : (P : ℕ → Type 0) (n : ℕ) → All P n → (k : ℕ) → k < n → P k
each P zero p k h = absurd (not-suc-le-zero h)
each P (suc n) p zero h = p.0
each P (suc n) p (suc k) h = each (λ (k : ℕ). P (suc k)) n p.1 k (le_of_suc-le-suc h)
