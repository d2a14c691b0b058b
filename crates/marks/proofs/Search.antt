-- Whether a number below a bound passes a test, by the list of the numbers below it.
-- Assumes nothing.
use Rattle.std.proofs.Common.{◌≡◌, Bool, ℕ, zero, suc, ◌+◌, refl, ap, ◌∙◌, add-zero, arith}
use Rattle.std.specs.List.{range_with_len, list_any}
use Rattle.laws.specs.Choice.{either}
use Rattle.laws.specs.Search.{some_below}
use Rattle.laws.proofs.Some.{either-none, some-apart, some_same}

-- the first number, and the n after it
first : (p : ℕ → Bool) (n : ℕ) → some_below (suc n) p ≡ either (p 0) (some_below n (λ i. p (1 + i)))
unfolding some_below
first p n =
    let e : suc n ≡ 1 + n = omega arith in
    ap (λ (k : ℕ). some_below k p) e ∙ some-apart p 1 n ∙ ap (λ (t : Bool). either t (some_below n (λ i. p (1 + i)))) (either-none (p 0))

listed_from : (p : ℕ → Bool) (n a : ℕ) → list_any p (range_with_len a n) ≡ some_below n (λ i. p (a + i))
unfolding some_below
listed_from p zero a = refl
listed_from p (suc n) a =
    rw (
      first (λ i. p (a + i)) n,
      add-zero a,
      listed_from p n (a + 1),
      some_same (λ i. p (a + 1 + i)) (λ i. p (a + (1 + i))) n (λ i h. let e : a + 1 + i ≡ a + (1 + i) = omega arith in ap p e),
    )

pub some_listed : (p : ℕ → Bool) (n : ℕ) → list_any p (range_with_len 0 n) ≡ some_below n p
some_listed p n = listed_from p n 0 ∙ some_same (λ i. p (0 + i)) p n (λ i h. let e : 0 + i ≡ i = omega arith in ap p e)
