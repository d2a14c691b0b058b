-- For the contracts of this crate's own functions alone.
-- Assumes nothing.
use Rattle.std.specs.Prelude.{ℕ, ◌+◌, ◌*◌, ◌/◌}
use Rattle.laws.specs.Choice.{choose}
use Rattle.lines.specs.Listing.{is_listable}

-- no listing of n bytes is longer
abbrev pub most : ℕ → ℕ
most n = choose (is_listable n) (12 + 55 * (n / 4) + 58) 11
