-- The order of whole numbers, each a difference of two numbers from 0, as an order of numbers from 0.
-- Assumes nothing.
use Rattle.std.proofs.Common.{◌≡◌, ℕ, suc, ◌+◌, ◌<◌, ◌≤◌, true, false, ltb, leb, ℤ, pos, negsuc, ◌+ℤ◌, ◌-ℤ◌, sym, ◌∙◌, add-zero, arith, ltb-false, ltb-true, le-ltb, lt-ltb, le-leb}
use lib.Signed.{lt_z}
use borrow.Author.Tests.{lt-leb}
use Rattle.laws.proofs.Tests.{sides}
use Rattle.arithmetic.proofs.Wholes.{up, down, Is, plus-whole, minus-whole}

module _ (a b : ℤ) (p q r s : ℕ) (h : Is a p q) (k : Is b r s) where
  pub is-plus : Is (a +ℤ b) (p + r) (q + s)
  is-plus = omega (arith, plus-whole a b)

  pub is-minus : Is (a -ℤ b) (p + s) (q + r)
  is-minus = omega (arith, minus-whole a b)

-- two tests of one fact
test-same : (a b c d : ℕ) → (a < b → c < d) → (b ≤ a → d ≤ c) → ltb a b ≡ ltb c d
test-same a b c d f g = sides b a (λ h. rw (lt-ltb a b h, lt-ltb c d (f h))) (λ h. rw (le-ltb a b h, le-ltb c d (g h)))

test-at-most : (a b c d : ℕ) → (a < b → c ≤ d) → (b ≤ a → d < c) → ltb a b ≡ leb c d
test-at-most a b c d f g = sides b a (λ h. rw (lt-ltb a b h, le-leb c d (f h))) (λ h. rw (le-ltb a b h, lt-leb c d (g h)))

less-is : (a b : ℤ) → lt_z a b ≡ ltb (up a + down b) (up b + down a)
less-is (pos a) (pos b) = rw (add-zero, add-zero)
less-is (pos a) (negsuc b) = sym (le-ltb (a + suc b) 0 (omega arith))
less-is (negsuc a) (pos b) = sym (lt-ltb 0 (b + suc a) (omega arith))
less-is (negsuc a) (negsuc b) = test-same b a (0 + suc b) (0 + suc a) (λ h. omega arith) (λ h. omega arith)

module _ (a b : ℤ) (p q r s : ℕ) (h : Is a p q) (k : Is b r s) where
  is-less : lt_z a b ≡ ltb (p + s) (r + q)
  is-less = less-is a b ∙ test-same (up a + down b) (up b + down a) (p + s) (r + q) (λ l. omega arith) (λ l. omega arith)

  pub less : p + s < r + q → lt_z a b ≡ true
  less l = is-less ∙ lt-ltb (p + s) (r + q) l

  pub not-less : r + q ≤ p + s → lt_z a b ≡ false
  not-less l = is-less ∙ le-ltb (p + s) (r + q) l

  pub at_least : lt_z a b ≡ false → r + q ≤ p + s
  at_least e = ltb-false (p + s) (r + q) (sym is-less ∙ e)

  pub less-than : lt_z a b ≡ true → p + s < r + q
  less-than e = ltb-true (p + s) (r + q) (sym is-less ∙ e)

  pub less_as : (c d : ℕ) → (p + s < r + q → c < d) → (r + q ≤ p + s → d ≤ c) → lt_z a b ≡ ltb c d
  less_as c d f g = is-less ∙ test-same (p + s) (r + q) c d f g

  pub less-at-most : (c d : ℕ) → (p + s < r + q → c ≤ d) → (r + q ≤ p + s → d < c) → lt_z a b ≡ leb c d
  less-at-most c d f g = is-less ∙ test-at-most (p + s) (r + q) c d f g
