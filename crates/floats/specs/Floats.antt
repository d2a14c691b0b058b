-- The float of an immediate: plus or minus k/128.
-- Assumes nothing.
use Rattle.std.specs.Prelude.{ℕ, ◌+◌, ◌-◌, ◌*◌, ◌/◌, ◌%◌, ◌^◌, leb, Float}
use Rattle.std.specs.Float.Ieee.{odd}
use Rattle.fields.specs.Halfwords.{bit, field}

-- k = (16 + m) * 2^e, where m is efgh and e is bcd with its top bit turned over
abbrev pub k_of : ℕ → ℕ
k_of b = (16 + b % 16) * 2 ^ ((b / 16 + 4) % 8)

-- k / 2^7, negative where a is set; `odd` gives it its one form, with an odd significand (Promises.FloatValue)
unfoldable pub float_of : ℕ → Float
unfolding odd
float_of b = odd 12 (leb 128 b) (k_of b) 0 7

-- VFPExpandImm to 32 bits: a, NOT b, b five times, cdefgh, and 19 zeros (Promises.FloatPattern)
abbrev pub float_bits : ℕ → ℕ
float_bits b = bit 7 b * 2 ^ 31 + (1 - bit 6 b) * 2 ^ 30 + bit 6 b * (31 * 2 ^ 25) + field 5 0 b * 2 ^ 19
