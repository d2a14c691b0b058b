-- The whole numbers among which every amount lies.
-- Assumes nothing.
use Rattle.std.specs.Prelude.{Bool, true, ltb, ℤ, pos, negsuc}

-- outside 0 to 64; negsuc n is -(n + 1)
abbrev pub is_outside : ℤ → Bool
is_outside (pos n) = ltb 64 n
is_outside (negsuc n) = true
