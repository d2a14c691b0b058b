-- The steps of a sheet, one after another.
-- Assumes nothing.
use mathlib.Core.Path.{◌≡◌, refl, ap}
use mathlib.Core.Bool.{true}
use mathlib.Core.List.{List, [], ◌∷◌, ◌++◌}
use Prim.Native.Nat.{ℕ, zero, suc, ◌+◌, ◌*◌, ◌<◌}
use native.Mathlib.Nat.{add-zero, zero-add, not-suc-le-zero}
use native.Mathlib.Omega.{arith}
use lib.ListN.{length}
use Rattle.steps.specs.declared.Step.{Step}
use Rattle.steps.specs.Rules.{keeps, AllKeep}
use Rattle.steps.specs.Steps.{step_at, steps_from}

pub steps-length : (s : List ℕ) (k n : ℕ) → length (steps_from s k n) ≡ n
unfolding steps_from
steps-length s k zero = refl
steps-length s k (suc n) = ap suc (steps-length s (suc k) n)

-- one step more, at the end
pub steps-snoc : (s : List ℕ) (k n : ℕ) → steps_from s k (suc n) ≡ steps_from s k n ++ (step_at s (24 * (k + n)) ∷ [])
unfolding steps_from
steps-snoc s k zero = rw add-zero
steps-snoc s k (suc n) =
    let e : k + suc n ≡ suc k + n = omega arith in
    rw e (ap (λ (l : List Step). step_at s (24 * k) ∷ l) (steps-snoc s (suc k) n))

-- the steps before step i, the last of them first
abbrev pub before : List ℕ → ℕ → List Step
before s zero = []
before s (suc i) = step_at s (24 * i) ∷ before s i

pub before-length : (s : List ℕ) (i : ℕ) → length (before s i) ≡ i
before-length s zero = refl
before-length s (suc i) = ap suc (before-length s i)

keeps-each : (s : List ℕ) (k n : ℕ) → AllKeep (steps_from s k n) → (i : ℕ) → i < n → keeps (step_at s (24 * (k + i))) ≡ true
unfolding steps_from
keeps-each s k zero a i h = absurd (not-suc-le-zero h)
keeps-each s k (suc n) a zero h = rw add-zero a.0
keeps-each s k (suc n) a (suc i) h =
    let e : k + suc i ≡ suc k + i = omega arith in
    rw e (keeps-each s (suc k) n a.1 i (omega arith))

pub each_keeps : (s : List ℕ) (n : ℕ) → AllKeep (steps_from s 0 n) → (i : ℕ) → i < n → keeps (step_at s (24 * i)) ≡ true
each_keeps s n a i h = let e : 0 + i ≡ i = zero-add i in rw e at (keeps-each s 0 n a i h)
