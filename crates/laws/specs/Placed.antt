-- A list placed into a buffer.
-- Assumes nothing.
use Rattle.std.specs.Prelude.{◌≡◌, List, ℕ, ◌+◌, ◌≤◌, length}
use Rattle.std.proofs.lemmas.List.Edits.{sets}

-- the list, of at most b elements, stands in the buffer from place i on, as far as the buffer reaches; r is the place after it
pub record Placed {A : Type 0} (b : ℕ) (before : List A) (i : ℕ) (list : List A) (after : List A) (r : ℕ) : Type 0 where
  pub stored : after ≡ sets before i list
  pub next : r ≡ i + length list
  pub short : length list ≤ b
