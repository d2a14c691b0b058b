-- A file of one number in all 32 registers.
-- Assumes nothing.
use mathlib.Core.Path.{◌≡◌, refl, ap}
use mathlib.Core.Bool.{false}
use mathlib.Core.List.{[], ◌∷◌}
use Prim.Native.Nat.{ℕ, zero, suc, ◌^◌, ◌≤◌, ◌<◌}
use native.Mathlib.Nat.{le_of_suc-le-suc, not-suc-le-zero}
use native.Mathlib.Omega.{arith}
use lib.ListN.{length, get_or}
use Rattle.effects.specs.File.{File, Good}
use Rattle.machine.specs.State.{State, state}

pub fill : ℕ → ℕ → File
fill zero a = []
fill (suc n) a = a ∷ fill n a

fill-length : (n a : ℕ) → length (fill n a) ≡ n
unfolding fill
fill-length zero a = refl
fill-length (suc n) a = ap suc (fill-length n a)

fill-get : (n a k : ℕ) → k < n → get_or (fill n a) k 0 ≡ a
unfolding fill
fill-get zero a k h = absurd (not-suc-le-zero h)
fill-get (suc n) a zero h = refl
fill-get (suc n) a (suc k) h = fill-get n a k (le_of_suc-le-suc h)

fill-small : (n a k : ℕ) → get_or (fill n a) k 0 ≤ a
unfolding fill
fill-small zero a k = omega arith
fill-small (suc n) a zero = omega arith
fill-small (suc n) a (suc k) = fill-small n a k

abbrev pub all_of : ℕ → State
all_of a = state (fill 32 a) false

pub all_read : (a k : ℕ) → k < 32 → get_or (all_of a).file k 0 ≡ a
all_read = fill-get 32

pub all-good : (a : ℕ) → a < 2 ^ 64 → Good (all_of a).file
all-good a h = record { size = fill-length 32 a; small = λ k. let s = fill-small 32 a k in omega arith }
