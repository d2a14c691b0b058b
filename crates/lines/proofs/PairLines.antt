-- The lines and their sorts, one pair at a time.
-- Assumes nothing.
use mathlib.Core.Bool.{true, false}
use mathlib.Core.Path.{◌≡◌, refl, ap, sym, ◌∙◌}
use mathlib.Core.List.{List, [], ◌∷◌, ◌++◌, map, append_assoc}
use Prim.Native.Nat.{ℕ, zero, suc, ◌+◌, ◌/◌}
use native.Mathlib.Numerals.{add-one}
use native.Mathlib.Omega.{arith}
use lib.ListN.{length, length-append}
use Rattle.names.specs.Names.{codes}
use Rattle.text.specs.Text.{decimal}
use Rattle.totals.specs.declared.Sort.{Sort}
use Rattle.totals.specs.Totals.{totals_text}
use Rattle.totals.specs.Own.{figure_in, counted}
use Rattle.totals.proofs.Counts.{figures, counted-last, totals-of}
use Rattle.lines.specs.Listing.{pair_line, pair_sort, numbers_below, figure, is_listable, lines, ended_lines, listing}

map_last : {A : Type 0} (f : ℕ → A) (xs : List ℕ) (x : ℕ) → map f (xs ++ x ∷ []) ≡ map f xs ++ f x ∷ []
map_last f [] x = refl
map_last f (y ∷ ys) x = ap (λ (l : List _). f y ∷ l) (map_last f ys x)

-- of the numbers below i + 1: those of the numbers below i, and that of i
pub next : {A : Type 0} (f : ℕ → A) (i : ℕ) → map f (numbers_below (i + 1)) ≡ map f (numbers_below i) ++ f i ∷ []
unfolding numbers_below
next f i = rw add-one (map_last f (numbers_below i) i)

-- as many as numbers
pub as_many : {A : Type 0} (f : ℕ → A) (n : ℕ) → length (map f (numbers_below n)) ≡ n
unfolding numbers_below
as_many f zero = refl
as_many f (suc n) = omega (arith, ap length (map_last f (numbers_below n) n), length-append (map f (numbers_below n)) (f n ∷ []), as_many f n)

pub ended-last : (ls : List (List ℕ)) (l : List ℕ) → ended_lines (ls ++ l ∷ []) ≡ ended_lines ls ++ (l ++ 10 ∷ [])
unfolding ended_lines
ended-last [] l = refl
ended-last (x ∷ ls) l = ap (λ (t : List ℕ). x ++ 10 ∷ t) (ended-last ls l) ∙ sym (append_assoc x (10 ∷ ended_lines ls) (l ++ 10 ∷ []))

-- the lines below i + 1: those below i, and the line of pair i
pub one_more : (bytes : List ℕ) (i : ℕ) → ended_lines (map (pair_line bytes) (numbers_below (i + 1))) ≡ ended_lines (map (pair_line bytes) (numbers_below i)) ++ (pair_line bytes i ++ 10 ∷ [])
one_more bytes i = ap ended_lines (next (pair_line bytes) i) ∙ ended-last (map (pair_line bytes) (numbers_below i)) (pair_line bytes i)

-- the figures below i + 1: those below i with the sort of pair i counted
pub figures-more : {counts after : List ℕ} {s : Sort} (bytes : List ℕ) (i : ℕ) → counts ≡ figures (map (pair_sort bytes) (numbers_below i)) → s ≡ pair_sort bytes i → after ≡ counted counts s
    → after ≡ figures (map (pair_sort bytes) (numbers_below (i + 1)))
figures-more bytes i e g h = h ∙ rw (e, g) (counted-last (map (pair_sort bytes) (numbers_below i)) (pair_sort bytes i)) ∙ ap figures (sym (next (pair_sort bytes) i))

-- the line of all figures
pub totals-line : {counts : List ℕ} (bytes : List ℕ) → counts ≡ figures (map (pair_sort bytes) (numbers_below (length bytes / 4))) → totals_text (figure_in counts) ++ 10 ∷ [] ≡ totals_text (figure bytes) ++ 10 ∷ []
totals-line bytes e = ap (λ (l : List ℕ). totals_text (figure_in l) ++ 10 ∷ []) e ∙ ap (λ (l : List ℕ). l ++ 10 ∷ []) (totals-of (map (pair_sort bytes) (numbers_below (length bytes / 4))))

-- the whole listing of a length that is listed: the first line, and then the others
pub listed : (bytes : List ℕ) → is_listable (length bytes) ≡ true
    → codes "pairs " ++ decimal (length bytes / 4) ++ (10 ∷ ended_lines (map (pair_line bytes) (numbers_below (length bytes / 4)) ++ totals_text (figure bytes) ∷ [])) ≡ listing bytes
unfolding lines ended_lines
listed bytes e = rw e

-- and of one that is not
pub unlisted : (bytes : List ℕ) → is_listable (length bytes) ≡ false → codes "refused 11" ++ 10 ∷ [] ≡ listing bytes
unfolding lines ended_lines
unlisted bytes e = rw e
