-- A page that is written to.
-- Assumes nothing.
use Rattle.std.specs.Prelude.{◌≡◌, List, ℕ}
use Rattle.laws.specs.Placed.{Placed}
use Rattle.text.specs.declared.Page.{Page}

-- the list, of at most b elements, stands in the same buffer from the place before on, as far as it reaches; the place is now the one after it
pub record Writes {A : Type 0} (b : ℕ) (before : Page A) (list : List A) (after : Page A) : Type 0 where
  pub buffer : after.out.ghost_name ≡ before.out.ghost_name
  pub placed : Placed b before.out.now before.at list after.out.now after.at
