-- Which floats and which bits are a not-a-number.
-- Assumes nothing.
use mathlib.Core.Path.{◌≡◌, refl, sym, ◌∙◌}
use mathlib.Core.Bool.{true, not}
use Prim.Native.Nat.{ℕ, ◌%◌, ◌<◌, ◌≤◌}
use lib.Dec.{T, ltb}
use lib.Ieee.{Float, nan, inf, fin, is_nan, binary64, of_bits, nan_bits}
use lib.Ieee.Bits.{nan_bits_is, nan_bits_above}
use borrow.Author.Tests.{lt-ltb, le-ltb}
use Rattle.laws.proofs.Never.{wrong}

-- a not-a-number is the one that there is
pub the_nan : (x : Float) → is_nan x ≡ true → nan ≡ x
unfolding is_nan
the_nan nan e = refl
the_nan (inf s) e = wrong e
the_nan (fin s m k) e = wrong e

-- 64 bits are a not-a-number's where they are above infinity's
pub above : (n : ℕ) → nan_bits binary64 n ≡ ltb 0x7ff0_0000_0000_0000 (n % 0x8000_0000_0000_0000)
above n = nan_bits_above binary64 n

pub nan-of : (n : ℕ) → 0x7ff0_0000_0000_0000 < n % 0x8000_0000_0000_0000 → nan ≡ of_bits binary64 n
nan-of n h = the_nan (of_bits binary64 n) (sym (nan_bits_is binary64 n) ∙ above n ∙ lt-ltb _ _ h)

pub number-of : (n : ℕ) → n % 0x8000_0000_0000_0000 ≤ 0x7ff0_0000_0000_0000 → T (not (nan_bits binary64 n))
number-of n h = rw (above n, le-ltb 0x7ff0_0000_0000_0000 (n % 0x8000_0000_0000_0000) h) tt
