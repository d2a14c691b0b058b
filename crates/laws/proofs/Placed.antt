-- Lists placed one after the other.
-- Assumes nothing.
use mathlib.Core.Path.{◌≡◌, refl, ap, sym, ◌∙◌}
use mathlib.Core.List.{List, [], ◌∷◌, ◌++◌}
use Prim.Native.Nat.{ℕ, suc, ◌+◌, ◌≤◌, ◌<◌}
use native.Mathlib.Nat.{zero-add, add-zero, add-suc, suc-add}
use native.Mathlib.Numerals.{add-one}
use native.Mathlib.Omega.{arith}
use lib.ListN.{length, set, get_or, take, drop, length-append}
use lib.Seq.{sets, sets-eq, set-set, take-suc}
use Rattle.laws.specs.Placed.{Placed}

pub sets_then : {A : Type 0} (s l : List A) (i : ℕ) (t : List A) → sets (sets l i s) (i + length s) t ≡ sets l i (s ++ t)
sets_then [] l i t = rw add-zero
sets_then (a ∷ s) l i t = rw (add-suc, ← suc-add) (sets_then s (set l i a) (suc i) t)

-- a list and then another
pub then : {A : Type 0} {a b : ℕ} {l l' l'' : List A} {i j k : ℕ} {s t : List A} → Placed a l i s l' j → Placed b l' j t l'' k → Placed (a + b) l i (s ++ t) l'' k
then {l = l} {i = i} {s = s} {t = t} p q = record {
  stored = q.stored ∙ rw (p.stored, p.next) (sets_then s l i t);
  next = omega (arith, length-append s t);
  short = omega (arith, length-append s t);
}

-- nothing
pub nothing : {A : Type 0} {b : ℕ} (l : List A) (i : ℕ) → Placed b l i [] l i
nothing l i = record { stored = refl; next = omega arith; short = omega arith }

-- one element
pub one : {A : Type 0} (l : List A) (i : ℕ) (x : A) → Placed 1 l i (x ∷ []) (set l i x) (i + 1)
one l i x = record { stored = refl; next = refl; short = omega arith }

-- two elements
pub two : {A : Type 0} (l : List A) (i : ℕ) (x y : A) → Placed 2 l i (x ∷ y ∷ []) (set (set l i x) (i + 1) y) (i + 2)
two l i x y = record { stored = rw add-one; next = refl; short = omega arith }

-- four elements
pub four : {A : Type 0} (l : List A) (i : ℕ) (x y z w : A) → Placed 4 l i (x ∷ y ∷ z ∷ w ∷ []) (set (set (set (set l i x) (i + 1) y) (i + 2) z) (i + 3) w) (i + 4)
four l i x y z w =
    let e : i + 1 ≡ suc i = omega arith in
    let f : i + 2 ≡ suc (suc i) = omega arith in
    let g : i + 3 ≡ suc (suc (suc i)) = omega arith in
    record { stored = rw (e, f, g); next = refl; short = omega arith }

-- an element placed over another
pub over : {A : Type 0} {a b : ℕ} {l l' l'' : List A} {i j k : ℕ} {x y : A} → Placed a l i (x ∷ []) l' j → Placed b l' i (y ∷ []) l'' k → Placed b l i (y ∷ []) l'' k
over {l = l} {i = i} {x = x} {y = y} p q = record { stored = q.stored ∙ rw p.stored (set-set l i x y); next = q.next; short = q.short }

-- a greater bound
pub widen : {A : Type 0} {a b : ℕ} {l l' : List A} {i j : ℕ} {s : List A} → a ≤ b → Placed a l i s l' j → Placed b l i s l' j
widen h p = record { stored = p.stored; next = p.next; short = omega arith }

-- the same list in other words
pub reword : {A : Type 0} {b : ℕ} {l l' : List A} {i j : ℕ} {s t : List A} → s ≡ t → Placed b l i s l' j → Placed b l i t l' j
reword e p = rw e at p

-- and with a bound of its own
pub respell : {A : Type 0} {a b : ℕ} {l l' : List A} {i j : ℕ} {s t : List A} → s ≡ t → length t ≤ b → Placed a l i s l' j → Placed b l i t l' j
respell {l = l} {i = i} e h p = record {
  stored = p.stored ∙ ap (λ (x : List _). sets l i x) e;
  next = p.next ∙ ap (λ (x : List _). i + length x) e;
  short = h;
}

-- a loop that places the elements of s one by one has placed its first j
pub copied : {A : Type 0} {l l' l'' : List A} {i p r : ℕ} (s : List A) (j : ℕ) (d : A) → j < length s → Placed j l i (take j s) l' p → Placed 1 l' p (get_or s j d ∷ []) l'' r → Placed (j + 1) l i (take (j + 1) s) l'' r
copied s j d h p q = rw (add-one, take-suc s j d h) (rw add-one at (then p q))

-- from the start of a buffer that is long enough: the list, and then what was there
pub whole : {A : Type 0} {b : ℕ} {l l' s : List A} {r : ℕ} → length s ≤ length l → Placed b l 0 s l' r → l' ≡ s ++ drop (length s) l
whole {l = l} {s = s} h p = p.stored ∙ sets-eq s l 0 (omega arith) ∙ rw zero-add
