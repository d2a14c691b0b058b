-- For the contract of `table`, and of the type that keeps it: what the table of bytes holds.
-- Assumes nothing.
use Rattle.std.specs.Prelude.{List, ◌≡◌, ℕ, ◌+◌, ◌*◌, ◌<◌, get_or}
use Rattle.names.specs.Names.{name_of, codes}

-- the byte at place j of a mnemonic's spelling, and a space past its end
unfoldable pub name_byte : ℕ → ℕ → ℕ
name_byte m j = get_or (codes (name_of m)) j 32

-- a table of all spellings: that of mnemonic m has the twelve bytes from m * 12 on
pub record NameTable (t : List ℕ) : Type 0 where
  pub bytes : (m j : ℕ) → m < 346 → j < 12 → get_or t (m * 12 + j) 0 ≡ name_byte m j
