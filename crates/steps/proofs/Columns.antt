-- How many numbers each use allows, from 0 on, by the table of rules.
-- Assumes nothing.
use mathlib.Core.Path.{◌≡◌, refl, sym, ◌∙◌}
use mathlib.Core.Logic.{◌≢◌, inl, inr}
use mathlib.Core.Bool.{true, ◌&&◌}
use Prim.Native.Nat.{ℕ, zero, suc, ◌<◌, ◌≤◌}
use native.Mathlib.Omega.{arith}
use lib.Dec.{ltb, eqb-suc-zero, leb-suc-zero, leb-suc-suc}
use borrow.Author.Tests.{ltb-true}
use Rattle.std.proofs.lemmas.Bool.{cases_lt}
use Rattle.std.proofs.lemmas.List.{get_or_past}
use Rattle.laws.proofs.Range.{values, agree}
use Rattle.steps.specs.declared.Step.{Step}
use Rattle.steps.specs.Own.{limit}
use Rattle.steps.specs.Rules.{Use, unused, up_to, below, a_row, no_amount, Uses, uses, table, uses_of, keeps_rows, keeps_numbers, allows}
use Rattle.insn.specs.Widths.{bits_at}
use Rattle.steps.proofs.Each.{each}

-- what a use allows is below the limit
pub fits_below : (u : Use) (x : ℕ) → allows u x ≡ ltb x (limit u)
fits_below unused zero = refl
fits_below unused (suc x) = eqb-suc-zero x ∙ sym (leb-suc-suc (suc x) 0 ∙ leb-suc-zero x)
fits_below (up_to n) x = sym (leb-suc-suc x n)
fits_below (below n) x = refl

-- a kind past the table uses nothing
pub uses-past : (k : ℕ) → 15 ≤ k → uses_of k ≡ uses unused unused unused unused no_amount unused unused
unfolding table
uses-past k h = get_or_past table k _ h

-- only kinds 9 and 10 use the amount, and kind 0 the words
amounts-unused : (w k : ℕ) → k < 15 → k ≢ 9 → k ≢ 10 → (uses_of k).amount w ≡ unused
unfolding table
amounts-unused w =
    each (λ (k : ℕ). k ≢ 9 → k ≢ 10 → (uses_of k).amount w ≡ unused) 15 (
      (λ n m. refl),
      (
        (λ n m. refl),
        (
          (λ n m. refl),
          (
            (λ n m. refl),
            (
              (λ n m. refl),
              (
                (λ n m. refl),
                (
                  (λ n m. refl),
                  (
                    (λ n m. refl),
                    (
                      (λ n m. refl),
                      (
                        (λ n m. absurd (n refl)),
                        (
                          (λ n m. absurd (m refl)),
                          ((λ n m. refl), ((λ n m. refl), ((λ n m. refl), ((λ n m. refl), tt)))),
                        ),
                      ),
                    ),
                  ),
                ),
              ),
            ),
          ),
        ),
      ),
    )

pub no-amount : (w k : ℕ) → k ≢ 9 → k ≢ 10 → (uses_of k).amount w ≡ unused
no-amount w k n m =
    elim (cases_lt k 15) [ inl h ↦ amounts-unused w k h n m | inr h ↦ rw (uses-past k h) refl ]

words_unused : (k : ℕ) → k < 15 → k ≢ 0 → (uses_of k).words ≡ unused
unfolding table
words_unused =
    each (λ (k : ℕ). k ≢ 0 → (uses_of k).words ≡ unused) 15 (
      (λ n. absurd (n refl)),
      (
        (λ n. refl),
        (
          (λ n. refl),
          (
            (λ n. refl),
            (
              (λ n. refl),
              (
                (λ n. refl),
                (
                  (λ n. refl),
                  (
                    (λ n. refl),
                    (
                      (λ n. refl),
                      (
                        (λ n. refl),
                        (
                          (λ n. refl),
                          (
                            (λ n. refl),
                            ((λ n. refl), ((λ n. refl), ((λ n. refl), tt))),
                          ),
                        ),
                      ),
                    ),
                  ),
                ),
              ),
            ),
          ),
        ),
      ),
    )

pub no_word : (k : ℕ) → k ≢ 0 → (uses_of k).words ≡ unused
no_word k n = elim (cases_lt k 15) [ inl h ↦ words_unused k h n | inr h ↦ rw (uses-past k h) refl ]

-- what a column has at most
most : (f : Uses → ℕ) (m : ℕ) → values (λ (k : ℕ). ltb (f (uses_of k)) (suc m)) 0 15 ≡ values (λ (k : ℕ). true) 0 15 → (k : ℕ) → k < 15 → f (uses_of k) ≤ m
most f m e k h = let t = agree (λ (k : ℕ). ltb (f (uses_of k)) (suc m)) (λ (k : ℕ). true) 15 e k h in omega (arith, ltb-true (f (uses_of k)) (suc m) t)

-- every width code is below 4
pub widths : (k : ℕ) → k < 15 → limit (uses_of k).width ≤ 4
unfolding values table
widths = most (λ u. limit u.width) 4 refl

-- and every row below 14
pub a-rows : (k : ℕ) → k < 15 → limit (uses_of k).a ≤ 14
unfolding values table
a-rows = most (λ u. limit u.a) 14 refl

pub b-rows : (k : ℕ) → k < 15 → limit (uses_of k).b ≤ 14
unfolding values table
b-rows = most (λ u. limit u.b) 14 refl

pub c-rows : (k : ℕ) → k < 15 → limit (uses_of k).c ≤ 14
unfolding values table
c-rows = most (λ u. limit u.c) 14 refl

-- the rows' tests, as the code has them
pub rows-tested : (u : Uses) (s : Step)
    → ltb s.target 14 && (ltb s.a (limit u.a) && (ltb s.b (limit u.b) && (ltb s.c (limit u.c) && ltb s.width (limit u.width)))) ≡ keeps_rows u s
unfolding keeps_rows
rows-tested u s = rw (fits_below a_row, fits_below u.a, fits_below u.b, fits_below u.c, fits_below u.width)

-- and the numbers'
pub numbers-tested : (u : Uses) (s : Step)
    → ltb s.amount (limit (u.amount (bits_at s.width))) && (ltb s.sign (limit u.sign) && (allows u.words s.low && allows u.words s.high))
    ≡ keeps_numbers u s
unfolding keeps_numbers
numbers-tested u s = rw (fits_below u.sign, fits_below (u.amount (bits_at s.width)))
