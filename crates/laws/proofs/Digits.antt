-- A number's digit at the place a, of the radix b, and what stands above it.
-- Assumes nothing.
use mathlib.Core.Path.{◌≡◌}
use Prim.Native.Nat.{ℕ, ◌+◌, ◌*◌, ◌/◌, ◌%◌}
use native.Mathlib.Nat.{div-div-eq-div-mul, div-add-mod'}

pub digit : (x a b : ℕ) → x / (a * b) * b + x / a % b ≡ x / a
digit x a b = rw (← div-div-eq-div-mul x a b) (div-add-mod' (x / a) b)
