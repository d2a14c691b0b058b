-- For the contracts of this crate's functions, and of those that call them: the figures as a list of five.
-- Assumes nothing.
use Rattle.std.specs.Prelude.{List, ℕ, ◌+◌, get_or, set}
use Rattle.totals.specs.declared.Sort.{Sort}
use Rattle.totals.specs.Totals.{column}

-- the figure of a sort
abbrev pub figure_in : List ℕ → Sort → ℕ
figure_in counts s = get_or counts (column s) 0

-- one more of a sort
abbrev pub counted : List ℕ → Sort → List ℕ
counted counts s = set counts (column s) (figure_in counts s + 1)
