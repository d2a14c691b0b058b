-- A step's value comes from the rows that it reads, and it changes its target alone.
-- Assumes nothing.
use mathlib.Core.Path.{◌≡◌, refl, sym, ◌∙◌, ap, ap₂}
use mathlib.Core.Bool.{Bool, true, false}
use mathlib.Core.Logic.{◌≢◌}
use mathlib.Core.List.{List, [], ◌∷◌}
use Prim.Native.Nat.{ℕ, ◌≤◌, ◌<◌}
use lib.Dec.{ltb}
use lib.ListN.{get_or, get_or-eq_default}
use lib.Seq.{get_or-set_other}
use borrow.Author.Tests.{ltb-true, ltb-false}
use Rattle.steps.specs.declared.Step.{Step}
use Rattle.steps.specs.Meaning.{row_at, value_table, value_by, taken}
use Rattle.steps.specs.Reads.{reads_by, reads}
use Rattle.steps.specs.Promises.{AgreeAt}
use Rattle.steps.specs.Rules.{table}
use Rattle.insn.specs.Widths.{bits_at}
use Rattle.steps.proofs.Each.{each}

module _ (s : Step) (x y : List ℕ) where
  -- the value by kind, over what the rows hold
  abbrev by : ℕ → ℕ → ℕ → ℕ → ℕ
  by k a b c = get_or (value_table s (bits_at s.width) a b c) k 0

  abbrev Same : ℕ → Type 0
  Same k = AgreeAt (reads_by k s) x y → value_by k s x ≡ value_by k s y

  one : (k : ℕ) → AgreeAt (s.a ∷ []) x y → by k (row_at x s.a) 0 0 ≡ by k (row_at y s.a) 0 0
  one k e = ap (λ (a : ℕ). by k a 0 0) e.0

  two : (k : ℕ) → AgreeAt (s.a ∷ s.b ∷ []) x y → by k (row_at x s.a) (row_at x s.b) 0 ≡ by k (row_at y s.a) (row_at y s.b) 0
  two k e = ap₂ (λ (a b : ℕ). by k a b 0) e.0 e.1.0

  three : (k : ℕ) → AgreeAt (s.a ∷ s.b ∷ s.c ∷ []) x y
      → by k (row_at x s.a) (row_at x s.b) (row_at x s.c) ≡ by k (row_at y s.a) (row_at y s.b) (row_at y s.c)
  three k e = λ i. by k (e.0 i) (e.1.0 i) (e.1.1.0 i)

  by_kind : (k : ℕ) → k < 15 → Same k
  unfolding value_by value_table reads_by table
  by_kind = each Same 15 (
    (λ e. refl),
    (one 1, (two 2, (two 3, (two 4, (two 5, (two 6, (two 7, (one 8, (one 9, (one 10, (two 11, (two 12, (two 13, (three 14, tt)))))))))))))),
  )

  -- a kind past the table has no value but 0
  past : (k : ℕ) → 15 ≤ k → value_by k s x ≡ value_by k s y
  unfolding value_by value_table
  past k h =
      get_or-eq_default (value_table s (bits_at s.width) (row_at x s.a) (row_at x s.b) (row_at x s.c)) 0 h
      ∙ sym (get_or-eq_default (value_table s (bits_at s.width) (row_at y s.a) (row_at y s.b) (row_at y s.c)) 0 h)

  pub value-reads : AgreeAt (reads s) x y → value_by s.kind s x ≡ value_by s.kind s y
  value-reads e = go (ltb s.kind 15) refl
    where
      go : (t : Bool) → ltb s.kind 15 ≡ t → value_by s.kind s x ≡ value_by s.kind s y
      go true h = by_kind s.kind (ltb-true s.kind 15 h) e
      go false h = past s.kind (ltb-false s.kind 15 h)

pub taken-other : (s : Step) (x : List ℕ) (r : ℕ) → r ≢ s.target → row_at (taken s x) r ≡ row_at x r
unfolding taken
taken-other s x r h = get_or-set_other x s.target r (value_by s.kind s x) 0 h
