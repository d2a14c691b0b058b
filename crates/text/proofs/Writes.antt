-- Writings one after the other.
-- Assumes nothing.
use mathlib.Core.Path.{◌≡◌, refl, ◌∙◌}
use mathlib.Core.List.{List, [], ◌++◌}
use Prim.Native.Nat.{ℕ, ◌+◌, ◌≤◌}
use lib.ListN.{length}
use Rattle.laws.proofs.Placed as placed
use Rattle.text.specs.declared.Page.{Page}
use Rattle.text.specs.Writes.{Writes}

-- a list and then another
pub then : {A : Type 0} {a b : ℕ} {p q r : Page A} {s t : List A} → Writes a p s q → Writes b q t r → Writes (a + b) p (s ++ t) r
then w x = record { buffer = x.buffer ∙ w.buffer; placed = placed.then w.placed x.placed }

-- nothing
pub nothing : {A : Type 0} {b : ℕ} (p : Page A) → Writes b p [] p
nothing p = record { buffer = refl; placed = placed.nothing _ _ }

-- a greater bound
pub widen : {A : Type 0} {a b : ℕ} {p q : Page A} {s : List A} → a ≤ b → Writes a p s q → Writes b p s q
widen h w = record { buffer = w.buffer; placed = placed.widen h w.placed }

-- the same list in other words
pub reword : {A : Type 0} {b : ℕ} {p q : Page A} {s t : List A} → s ≡ t → Writes b p s q → Writes b p t q
reword e w = rw e at w

-- and with a bound of its own
pub respell : {A : Type 0} {a b : ℕ} {p q : Page A} {s t : List A} → s ≡ t → length t ≤ b → Writes a p s q → Writes b p t q
respell e h w = record { buffer = w.buffer; placed = placed.respell e h w.placed }
