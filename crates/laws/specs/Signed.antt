-- Signed numbers as bits, and back (Promises.BitsBack, NumberBack).
-- Assumes nothing.
use Rattle.std.specs.Prelude.{ℕ, ◌-◌, ◌%◌, ◌^◌, ltb, ℤ, pos, negsuc, ◌-ℤ◌}
use Rattle.laws.specs.Choice.{choose}

-- two's complement: w bits with the top bit set stand for themselves less 2^w
unfoldable pub twos_complement : ℕ → ℕ → ℤ
twos_complement w x = choose (ltb x (2 ^ (w - 1))) (pos x) (pos x -ℤ pos (2 ^ w))

-- a whole number modulo 2^w, from 0 to 2^w - 1: the w bits that it has in two's complement; negsuc n is -(n + 1)
unfoldable pub modulo : ℕ → ℤ → ℕ
modulo w (pos n) = n % 2 ^ w
modulo w (negsuc n) = 2 ^ w - 1 - n % 2 ^ w
