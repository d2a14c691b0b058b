-- The register file: 32 numbers of 64 bits, D0 to D31. Qn is D(2n), low, and D(2n+1).
-- Assumes nothing.
use Rattle.std.specs.Prelude.{Bool, List, ◌≡◌, ℕ, ◌+◌, ◌*◌, ◌/◌, ◌%◌, ◌^◌, ◌<◌, length, get_or, set}
use Rattle.laws.specs.Choice.{choose}

abbrev pub File : Type 0
File = List ℕ

pub record Good (file : File) : Type 0 where
  pub size : length file ≡ 32
  pub small : (k : ℕ) → get_or file k 0 < 2 ^ 64

-- Dk
abbrev pub read_d : File → ℕ → ℕ
read_d file k = get_or file k 0

abbrev pub write_d : File → ℕ → ℕ → File
write_d file k v = set file k v

-- a whole register, of 64 or 128 bits: Dk, or the quadword of Dk, low, and D(k+1)
abbrev pub register_bits : Bool → ℕ
register_bits quad = choose quad 128 64

abbrev pub read_r : Bool → File → ℕ → ℕ
read_r quad file k = choose quad (read_d file k + 2 ^ 64 * read_d file (k + 1)) (read_d file k)

abbrev pub write_r : Bool → File → ℕ → ℕ → File
write_r quad file k v = choose quad (write_d (write_d file k (v % 2 ^ 64)) (k + 1) (v / 2 ^ 64)) (write_d file k v)
