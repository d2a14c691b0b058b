-- What stands in a table whose cells were mapped: the image of what stood there.
-- Assumes nothing.
use mathlib.Core.Path.{◌≡◌, refl}
use mathlib.Core.List.{List, [], ◌∷◌, map}
use Prim.Native.Nat.{ℕ, zero, suc, ◌<◌}
use native.Mathlib.Nat.{le_of_suc-le-suc, not-suc-le-zero}
use lib.ListN.{length, get_or}

-- within the list, whatever the two defaults
pub mapped : {A B : Type 0} (f : A → B) (l : List A) (a : A) (b : B) (k : ℕ) → k < length l → get_or (map f l) k b ≡ f (get_or l k a)
mapped f [] a b k h = absurd (not-suc-le-zero h)
mapped f (x ∷ xs) a b zero h = refl
mapped f (x ∷ xs) a b (suc k) h = mapped f xs a b k (le_of_suc-le-suc h)
