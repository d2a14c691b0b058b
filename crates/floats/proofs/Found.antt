-- The immediate of a float is the one that its bits name, if any is.
-- Assumes nothing.
use mathlib.Core.Path.{◌≡◌, refl, sym, ap, ◌∙◌}
use mathlib.Core.Bool.{Bool, true, false}
use Prim.Native.Nat.{ℕ, ◌+◌, ◌*◌, ◌/◌, ◌%◌, ◌<◌}
use native.Mathlib.Omega.{arith}
use lib.Ieee.{Float, nan, inf, fin, binary64, eq, fits, is_nan, to_bits}
use Rattle.laws.specs.Choice.{choose}
use Rattle.laws.proofs.Never.{wrong}
use Rattle.laws.proofs.Range.{values, agree}
use Rattle.laws.specs.Search.{at, none}
use Rattle.laws.proofs.Search.{nothing, candidate}
use Rattle.floats.specs.Floats.{float_of}
use Rattle.floats.specs.Found.{find_float}
use Rattle.floats.proofs.Same.{only}

-- the sign, the lowest three bits of the exponent and the highest four of the fraction
abbrev pub named : ℕ → ℕ
named bits = bits / 0x8000_0000_0000_0000 % 2 * 128 + bits / 0x1_0000_0000_0000 % 128

back : (b : ℕ) → b < 256 → named (to_bits binary64 (float_of b)) ≡ b
unfolding values float_of to_bits
back = agree (λ (b : ℕ). named (to_bits binary64 (float_of b))) (λ (b : ℕ). b) 256 refl

module _ (x : Float) (f : fits binary64 x ≡ true) where
  pub its-bits : (b : ℕ) → b < 256 → eq (float_of b) x ≡ true → b ≡ named (to_bits binary64 x)
  its-bits b h e = sym (back b h) ∙ ap (λ (y : Float). named (to_bits binary64 y)) (only b x h f e)

  found : find_float x ≡ choose (eq (float_of (named (to_bits binary64 x))) x) (at (named (to_bits binary64 x))) none
  unfolding find_float
  found = candidate (λ (b : ℕ). eq (float_of b) x) 256 (named (to_bits binary64 x)) (omega arith) its-bits

  -- by the comparison with the float of the immediate that its bits name
  pub found-by : (b : Bool) {y : Float} → y ≡ float_of (named (to_bits binary64 x)) → eq y x ≡ b → choose b (at (named (to_bits binary64 x))) none ≡ find_float x
  found-by b is e = sym (found ∙ rw (← is, e))

-- a NaN is unequal to every float
unequal : (y : Float) → eq y nan ≡ false
unfolding eq
unequal nan = refl
unequal (inf s) = refl
unequal (fin s m d) = refl

pub no_nan : (x : Float) → is_nan x ≡ true → find_float x ≡ none
unfolding find_float is_nan
no_nan nan e = nothing (λ (b : ℕ). eq (float_of b) nan) 256 (λ b h. unequal (float_of b))
no_nan (inf s) e = wrong e
no_nan (fin s m d) e = wrong e

-- an immediate's float has that immediate
pub fitting : (b : ℕ) → b < 256 → fits binary64 (float_of b) ≡ true
unfolding values float_of fits
fitting = agree (λ (b : ℕ). fits binary64 (float_of b)) (λ (b : ℕ). true) 256 refl

self : (b : ℕ) → b < 256 → eq (float_of b) (float_of b) ≡ true
unfolding values float_of eq
self = agree (λ (b : ℕ). eq (float_of b) (float_of b)) (λ (b : ℕ). true) 256 refl

pub back_found : (b : ℕ) → b < 256 → find_float (float_of b) ≡ at b
back_found b h = found (float_of b) (fitting b h) ∙ rw (back b h, self b h)
