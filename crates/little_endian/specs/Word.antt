-- A word of 64 bits in a list of bytes: document 01, 'Sum sheet' and the start file.
-- Assumes nothing.
use Rattle.std.specs.Prelude.{List, ℕ, ◌+◌, ◌*◌, ◌^◌, get_or}

-- the word from place i, the lowest byte first
unfoldable pub word_at : List ℕ → ℕ → ℕ
word_at bytes i =
    get_or bytes i 0 + 2 ^ 8 * get_or bytes (i + 1) 0 + 2 ^ 16 * get_or bytes (i + 2) 0 + 2 ^ 24 * get_or bytes (i + 3) 0
    + 2 ^ 32 * get_or bytes (i + 4) 0 + 2 ^ 40 * get_or bytes (i + 5) 0 + 2 ^ 48 * get_or bytes (i + 6) 0 + 2 ^ 56 * get_or bytes (i + 7) 0
