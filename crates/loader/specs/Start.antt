-- The start file: 32 doublewords, each with its lowest byte first.
-- Assumes nothing.
use Rattle.std.specs.Prelude.{List, ◌≡◌, ℕ, ◌*◌, ◌<◌, get_or}
use Rattle.little_endian.specs.Word.{word_at}

-- doubleword k is the word of the bytes from 8k on
abbrev pub StartFile : List ℕ → List ℕ → Type 0
StartFile bytes file = (k : ℕ) → k < 32 → get_or file k 0 ≡ word_at bytes (8 * k)
