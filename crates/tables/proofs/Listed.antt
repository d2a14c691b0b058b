-- A function's values in a list from 0 on, what stands there, and what a table of the code reads as.
-- Assumes nothing.
use mathlib.Core.Path.{◌≡◌, refl, ap, ◌∙◌}
use mathlib.Core.Bool.{Bool, true, false}
use mathlib.Core.List.{List, [], ◌∷◌, map}
use Prim.Native.Nat.{ℕ, zero, suc, ◌+◌, ◌/◌, ◌%◌, ◌<◌, ◌≤◌}
use Prim.Native.String.{String}
use native.Mathlib.Nat.{add-zero, zero-add, add-suc, suc-add, le_of_suc-le-suc, not-suc-le-zero}
use native.Mathlib.Omega.{arith}
use lib.ListN.{length, get_or, get_or-map}
use lib.Text.{eqt}
use borrow.Author.Tests.{lt-ltb}
use Rattle.laws.specs.Choice.{choose}
use Rattle.laws.proofs.Range.{values}
use Rattle.laws.proofs.Tests.{sides}
use Rattle.names.specs.Names.{names, number_of, place, blank}
use Rattle.tables.specs.Cells.{cell_at, read_number}
use Rattle.tables.proofs.Cells.{past, blank-number}

value-at : {A : Type 0} (f : ℕ → A) (i n k : ℕ) (d : A) → k < n → get_or (values f i n) k d ≡ f (i + k)
unfolding values
value-at f i zero k d h = absurd (not-suc-le-zero h)
value-at f i (suc n) zero d h = rw add-zero
value-at f i (suc n) (suc k) d h = rw (add-suc, ← suc-add) (value-at f (suc i) n k d (le_of_suc-le-suc h))

value-past : {A : Type 0} (f : ℕ → A) (i n k : ℕ) (d : A) → n ≤ k → get_or (values f i n) k d ≡ d
unfolding values
value-past f i zero k d h = refl
value-past f i (suc n) zero d h = absurd (not-suc-le-zero h)
value-past f i (suc n) (suc k) d h = value-past f (suc i) n k d (le_of_suc-le-suc h)

pub listed : {A : Type 0} (f : ℕ → A) (n k : ℕ) (d : A) → k < n → get_or (values f 0 n) k d ≡ f k
listed f n k d h = rw zero-add at (value-at f 0 n k d h)

-- a mnemonic's number or blank: reading keeps either
kept : (s : String) (n : ℕ) (l : List String) → n + length l ≤ 346 → read_number (place s n l) ≡ place s n l
kept s n [] h = refl
kept s n (x ∷ xs) h = go (eqt x s) (kept s (suc n) xs (omega arith))
  where
    go : (t : Bool) {m : ℕ} → read_number m ≡ m → read_number (choose t n m) ≡ choose t n m
    go true e = let small : n < 346 = omega arith in rw (lt-ltb n 346 small)
    go false e = e

number-kept : (s : String) → read_number (number_of s) ≡ number_of s
unfolding names number_of
number-kept s = kept s 0 names (omega arith)

-- the number of the cell at a place of a table of the manual with w columns
abbrev pub numbered : List (List String) → ℕ → ℕ → ℕ
numbered table w k = number_of (cell_at table (k / w) (k % w))

-- the code's table lists these numbers, and reads as the manual's, also past its end
module _ (table : List (List String)) (w n k : ℕ) (ends : n ≤ k → length table ≤ k / w) where
  pub stored : get_or (values (numbered table w) 0 n) k blank ≡ numbered table w k
  stored =
      sides n k
      (listed (numbered table w) n k blank)
      (λ h. value-past (numbered table w) 0 n k blank h ∙ past table (k / w) (k % w) (ends h))

  pub tabled : read_number (get_or (values (numbered table w) 0 n) k blank) ≡ numbered table w k
  tabled = ap read_number stored ∙ number-kept (cell_at table (k / w) (k % w))

-- and so does a row of the manual's, where the code has its numbers
pub row_tabled : (table : List (List String)) (r c : ℕ) → read_number (get_or (map number_of (get_or table r [])) c blank) ≡ number_of (cell_at table r c)
row_tabled table r c =
    ap read_number (rw blank-number at (get_or-map number_of (get_or table r []) c ""))
    ∙ number-kept (cell_at table r c)

-- four blank cells
pub blanks : (j : ℕ) → read_number (get_or (blank ∷ blank ∷ blank ∷ blank ∷ []) j blank) ≡ blank
blanks zero = refl
blanks (suc zero) = refl
blanks (suc (suc zero)) = refl
blanks (suc (suc (suc zero))) = refl
blanks (suc (suc (suc (suc j)))) = refl
