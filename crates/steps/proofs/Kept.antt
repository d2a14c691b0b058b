-- What a step that keeps the rules is known for.
-- Assumes nothing.
use mathlib.Core.Path.{◌≡◌, sym, ◌∙◌, subst}
use mathlib.Core.Bool.{true, false}
use Prim.Native.Nat.{ℕ, ◌<◌, ◌≤◌}
use native.Mathlib.Omega.{arith}
use lib.Dec.{leb}
use borrow.Author.Tests.{ltb-true, lt-leb, leb-true}
use Rattle.steps.specs.declared.Step.{Step}
use Rattle.steps.specs.Own.{limit}
use Rattle.steps.specs.Rules.{Use, a_row, Uses, uses_of, keeps_rows, keeps_numbers, keeps, allows}
use Rattle.insn.specs.Widths.{bits_at}
use Rattle.steps.proofs.Columns.{fits_below, widths, a-rows, b-rows, c-rows}
use Rattle.laws.proofs.Tests.{both_true}

pub record Kept (u : Uses) (s : Step) : Type 0 where
  pub target : s.target < 14
  pub a : s.a < limit u.a
  pub b : s.b < limit u.b
  pub c : s.c < limit u.c
  pub width : s.width < limit u.width
  pub amount : s.amount < limit (u.amount (bits_at s.width))
  pub sign : s.sign < limit u.sign
  pub low : s.low < limit u.words
  pub high : s.high < limit u.words

within : (u : Use) (x : ℕ) → allows u x ≡ true → x < limit u
within u x e = ltb-true x (limit u) (sym (fits_below u x) ∙ e)

-- the rows' tests
record RowsKept (u : Uses) (s : Step) : Type 0 where
  target : s.target < 14
  a : s.a < limit u.a
  b : s.b < limit u.b
  c : s.c < limit u.c
  width : s.width < limit u.width

rows-kept : (u : Uses) (s : Step) → keeps_rows u s ≡ true → RowsKept u s
unfolding keeps_rows
rows-kept u s e =
    let e1 = both_true (allows a_row s.target) _ e in
    let e2 = both_true (allows u.a s.a) _ e1.1 in
    let e3 = both_true (allows u.b s.b) _ e2.1 in
    let e4 = both_true (allows u.c s.c) (allows u.width s.width) e3.1 in
    record {
      target = within a_row s.target e1.0;
      a = within u.a s.a e2.0;
      b = within u.b s.b e3.0;
      c = within u.c s.c e4.0;
      width = within u.width s.width e4.1;
    }

kept_by : (u : Uses) (s : Step) → keeps_rows u s ≡ true → keeps_numbers u s ≡ true → Kept u s
unfolding keeps_numbers
kept_by u s e f =
    let r = rows-kept u s e in
    let f1 = both_true (allows (u.amount (bits_at s.width)) s.amount) _ f in
    let f2 = both_true (allows u.sign s.sign) _ f1.1 in
    let f3 = both_true (allows u.words s.low) (allows u.words s.high) f2.1 in
    record {
      target = r.target;
      a = r.a;
      b = r.b;
      c = r.c;
      width = r.width;
      amount = within (u.amount (bits_at s.width)) s.amount f1.0;
      sign = within u.sign s.sign f2.0;
      low = within u.words s.low f3.0;
      high = within u.words s.high f3.1;
    }

module _ (s : Step) (e : keeps s ≡ true) where
  -- its kind is in the table
  pub kind-small : s.kind < 15
  unfolding keeps
  kind-small = let h = leb-true s.kind 14 (both_true (leb s.kind 14) _ e).0 in omega arith

  pub kept_of : Kept (uses_of s.kind) s
  unfolding keeps
  kept_of =
      let b = both_true (keeps_rows (uses_of s.kind) s) (keeps_numbers (uses_of s.kind) s) (both_true (leb s.kind 14) _ e).1 in
      kept_by (uses_of s.kind) s b.0 b.1

  pub target-small : s.target < 14
  target-small = kept_of.target

  -- its rows are, also those that it does not use
  pub a_small : s.a < 14
  a_small = omega (arith, kept_of.a, a-rows s.kind kind-small)

  pub b-small : s.b < 14
  b-small = omega (arith, kept_of.b, b-rows s.kind kind-small)

  pub c-small : s.c < 14
  c-small = omega (arith, kept_of.c, c-rows s.kind kind-small)

pub ruleset bytes_small = (kind-small, target-small, a_small, b-small, c-small)

-- where its kind is known
pub kept_at : (s : Step) (k : ℕ) → keeps s ≡ true → s.kind ≡ k → Kept (uses_of k) s
kept_at s k e h = subst (λ (k : ℕ). Kept (uses_of k) s) h (kept_of s e)

-- a kind past the table keeps none
pub kind-past : (s : Step) → 15 ≤ s.kind → keeps s ≡ false
unfolding keeps
kind-past s h = rw (lt-leb s.kind 14 h)

-- what the rows' test alone says
pub width-small : (s : Step) → s.kind < 15 → keeps_rows (uses_of s.kind) s ≡ true → s.width < 4
width-small s h e = omega (arith, (rows-kept (uses_of s.kind) s e).width, widths s.kind h)
