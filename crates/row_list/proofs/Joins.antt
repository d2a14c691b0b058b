-- A set of rows, joined with the rows of the words after it.
-- Assumes nothing.
use mathlib.Core.Path.{◌≡◌, refl, sym, ap, ◌∙◌}
use mathlib.Core.List.{List, [], ◌∷◌}
use Prim.Native.Nat.{ℕ, zero, suc, ◌+◌, ◌/◌, ◌%◌, ◌^◌, ◌≤◌, ◌<◌, max}
use native.Mathlib.Nat.{max-zero, max-le, zero-max, suc-max-suc}
use native.Mathlib.Omega.{arith}
use lib.Arith.{bin_ind}
use lib.Bits.{bit_or, or_step, or_zero_r}
use lib.ListN.{length, drop, get_or, drop_of_length-le}
use Rattle.std.proofs.lemmas.List.{drop_more}
use Rattle.laws.specs.Search.{Found, at, none}
use Rattle.laws.proofs.Never.{never}
use Rattle.steps.specs.Sets.{set_of}
use Rattle.std.specs.Prelude.{Option, Some, None}
use Rattle.row_list.specs.Answers.{list_answer}
use Rattle.row_list.specs.Lists.{Parsed, listed, no_list, and_rows, row_named, rows_named, as_set}

-- joins, however they are grouped
max-apart : (x y z : ℕ) → max (max x y) z ≡ max x (max y z)
max-apart zero y z = simp zero-max
max-apart (suc x) zero z = simp (max-zero, zero-max)
max-apart (suc x) (suc y) zero = simp (suc-max-suc, max-zero)
max-apart (suc x) (suc y) (suc z) = simp suc-max-suc (ap suc (max-apart x y z))

parts : (a b : ℕ) → (bit_or a b / 2 ≡ bit_or (a / 2) (b / 2)) × (bit_or a b % 2 ≡ max (a % 2) (b % 2))
parts a b =
    let digit : max (a % 2) (b % 2) ≤ 1 = max-le (omega arith) (omega arith) in
    let e = or_step a b in
    (omega arith, omega arith)

or_apart : (a b c : ℕ) → bit_or (bit_or a b) c ≡ bit_or a (bit_or b c)
or_apart =
    bin_ind (λ (a : ℕ). (b c : ℕ) → bit_or (bit_or a b) c ≡ bit_or a (bit_or b c)) (λ b c. refl)
    (λ a ih b c.
    or_step (bit_or a b) c
    ∙ rw ((parts a b).0, (parts a b).1, ih (b / 2) (c / 2), max-apart (a % 2) (b % 2) (c % 2))
    (sym (or_step a (bit_or b c) ∙ rw ((parts b c).0, (parts b c).1))))

abbrev pub joined : ℕ → Parsed ℕ → Parsed ℕ
joined rows (listed more) = listed (bit_or rows more)
joined rows no_list = no_list

pub joined-none : (x : Parsed ℕ) → joined 0 x ≡ x
joined-none (listed rows) = refl
joined-none no_list = refl

joined_end : (rows : ℕ) → joined rows (as_set (rows_named [])) ≡ listed rows
unfolding rows_named set_of
joined_end rows = ap listed (or_zero_r rows)

module _ (rows : ℕ) (word : List ℕ) (words : List (List ℕ)) where
  joined-row : (row : ℕ) → listed row ≡ as_set (rows_named (word ∷ [])) → joined rows (as_set (rows_named (word ∷ words))) ≡ joined (bit_or rows row) (as_set (rows_named words))
  unfolding rows_named set_of
  joined-row row e = go (row_named word) (rows_named words) e
    where
      go : (f : Found) (l : Parsed (List ℕ)) → listed row ≡ as_set (and_rows f (listed [])) → joined rows (as_set (and_rows f l)) ≡ joined (bit_or rows row) (as_set l)
      go (at r) (listed more) e =
          let same : row ≡ bit_or (2 ^ r) 0 = cc in
          let own = same ∙ or_zero_r (2 ^ r) in
          ap listed (rw own (sym (or_apart rows (2 ^ r) (set_of more))))
      go (at r) no_list e = refl
      go none l e = never (cc)

  joined-not : no_list ≡ as_set (rows_named (word ∷ [])) → joined rows (as_set (rows_named (word ∷ words))) ≡ no_list
  unfolding rows_named
  joined-not e = go (row_named word) (rows_named words) e
    where
      go : (f : Found) (l : Parsed (List ℕ)) → no_list ≡ as_set (and_rows f (listed [])) → joined rows (as_set (and_rows f l)) ≡ no_list
      go (at r) l e = never (cc)
      go none l e = refl

-- the words from a place on, where the first names a row, and where it names none
module _ (words : List (List ℕ)) (n rows : ℕ) (word : List ℕ) (turn : (n < length words) × (word ≡ get_or words n word)) where
  first : drop n words ≡ word ∷ drop (n + 1) words
  first = drop_more words n word turn.0 ∙ ap (λ (w : List ℕ). w ∷ drop (n + 1) words) (sym turn.1)

  pub with-row : (x : Option ℕ) (row : ℕ) → x ≡ Some row → list_answer x ≡ as_set (rows_named (word ∷ []))
      → joined (bit_or rows row) (as_set (rows_named (drop (n + 1) words))) ≡ joined rows (as_set (rows_named (drop n words)))
  with-row x row is names = rw first (sym (joined-row rows word (drop (n + 1) words) row (sym (ap list_answer is) ∙ names)))

  pub with-not : (x : Option ℕ) → x ≡ None → list_answer x ≡ as_set (rows_named (word ∷ [])) → no_list ≡ joined rows (as_set (rows_named (drop n words)))
  with-not x is names = rw first (sym (joined-not rows word (drop (n + 1) words) (sym (ap list_answer is) ∙ names)))

-- past the last word
pub with-end : (words : List (List ℕ)) (n rows : ℕ) → n ≡ length words → listed rows ≡ joined rows (as_set (rows_named (drop n words)))
with-end words n rows e = rw (drop_of_length-le words {i = n} (omega arith)) (sym (joined_end rows))
