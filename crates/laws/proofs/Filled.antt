-- A list that a rule gives, filled one element after another.
-- Assumes nothing.
use mathlib.Core.Path.{◌≡◌, refl, ◌∙◌}
use mathlib.Core.Bool.{Bool, true, false}
use mathlib.Core.List.{List}
use Prim.Native.Nat.{ℕ, ◌+◌, ◌<◌}
use native.Mathlib.Omega.{arith}
use lib.Dec.{eqb}
use lib.ListN.{length, get_or, set}
use lib.Seq.{get_or-set_same, get_or-set_other}
use borrow.Author.Tests.{eqb-true, eqb-false}

pub one_more : (f : ℕ → ℕ) (l : List ℕ) (i v : ℕ) → i < length l → v ≡ f i → ((k : ℕ) → k < i → get_or l k 0 ≡ f k)
    → (k : ℕ) → k < i + 1 → get_or (set l i v) k 0 ≡ f k
one_more f l i v h e before k less = go (eqb k i) refl
  where
    go : (b : Bool) → eqb k i ≡ b → get_or (set l i v) k 0 ≡ f k
    go true t = let same = eqb-true k i t in rw same (get_or-set_same l i v 0 h ∙ e)
    go false t = let other = eqb-false k i t in get_or-set_other l i k v 0 other ∙ before k (omega arith)
