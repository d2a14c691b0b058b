-- The float that the code computes, k over 128.0, is the immediate's at all 256.
-- Assumes nothing.
use mathlib.Core.Path.{◌≡◌, refl}
use mathlib.Core.Bool.{cond}
use Prim.Native.Nat.{ℕ, ◌%◌, ◌<◌}
use lib.Dec.{ltb}
use lib.IntN.{pos}
use lib.Ieee.{Float, binary64, of_int, div, of_bits, neg}
use Rattle.laws.proofs.Range.{values, agree}
use Rattle.floats.specs.Floats.{k_of, float_of}

abbrev pub computed : ℕ → Float
computed b =
    let x = div binary64 (of_int binary64 (pos (k_of b))) (of_bits binary64 0x4060_0000_0000_0000) in
    cond (ltb b 128) x (neg x)

pub exact : (b : ℕ) → b < 256 → computed b ≡ float_of b
unfolding values float_of div of_int of_bits neg
exact = agree computed float_of 256 refl

-- k has at most 16 bits
pub k_fits : (b : ℕ) → b < 256 → k_of b % 65536 ≡ k_of b
unfolding values
k_fits = agree (λ (b : ℕ). k_of b % 65536) k_of 256 refl
