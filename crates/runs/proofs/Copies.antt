-- A copy of a list into another of its length, an element a turn.
-- Assumes nothing.
use mathlib.Core.Path.{◌≡◌, sym, ◌∙◌, ap}
use mathlib.Core.List.{List, [], ◌∷◌, ◌++◌}
use Prim.Native.Nat.{ℕ, ◌+◌, ◌≤◌, ◌<◌}
use native.Mathlib.Numerals.{add-one}
use native.Mathlib.Omega.{arith}
use lib.ListN.{length, get_or, set, take}
use lib.Seq.{take-suc-set, take-suc, take_all}

pub more : (s out : List ℕ) (i : ℕ) → i < length out → i < length s → take i out ≡ take i s → take (i + 1) (set out i (get_or s i 0)) ≡ take (i + 1) s
more s out i p q e = rw add-one (take-suc-set out i (get_or s i 0) p ∙ ap (λ (l : List ℕ). l ++ (get_or s i 0 ∷ [])) e ∙ sym (take-suc s i 0 q))

pub whole : (s out : List ℕ) (n i : ℕ) → length s ≡ n → length out ≡ n → n ≤ i → take i out ≡ take i s → out ≡ s
whole s out n i p q h e = sym (take_all i out (omega arith)) ∙ e ∙ take_all i s (omega arith)
