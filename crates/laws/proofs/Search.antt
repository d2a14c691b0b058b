-- What a search finds.
-- Assumes nothing.
use mathlib.Core.Path.{◌≡◌, refl, sym, ap, ◌∙◌, subst}
use mathlib.Core.Bool.{Bool, true, false}
use Prim.Native.Nat.{ℕ, zero, suc, ◌+◌, ◌<◌, ◌≤◌}
use native.Mathlib.Omega.{arith}
use lib.Dec.{T, eqb}
use borrow.Author.Tests.{eqb-true, eqb-false}
use Rattle.laws.specs.Choice.{choose}
use Rattle.laws.specs.Search.{Found, at, none, first_from, first_below}
use Rattle.laws.proofs.Never.{never}

hit-from : (p : ℕ → Bool) (i n t : ℕ) → first_from p i n ≡ at t → (p t ≡ true) × (t < i + n)
unfolding first_from
hit-from p i zero t e = never (cc)
hit-from p i (suc n) t e = go (p i) refl e (hit-from p (suc i) n t)
  where
    go : (b : Bool) → p i ≡ b → choose b (at i) (first_from p (suc i) n) ≡ at t → (first_from p (suc i) n ≡ at t → (p t ≡ true) × (t < suc i + n)) → (p t ≡ true) × (t < i + suc n)
    go true y f r = let k : i ≡ t = cc in (subst (λ (u : ℕ). p u ≡ true) k y, omega arith)
    go false y f r = let q = r f in (q.0, omega arith)

-- what was found passes the test
pub hit : (p : ℕ → Bool) (n t : ℕ) → first_below n p ≡ at t → (p t ≡ true) × (t < n)
hit p n t e = let h = hit-from p 0 n t e in (h.0, omega arith)

-- how far a search of the numbers below an end went
abbrev reach : Found → ℕ → ℕ
reach (at t) end = t
reach none end = end

-- what it passed over fails
passed_over : (p : ℕ → Bool) (i n end : ℕ) (f : Found) → end ≡ i + n → first_from p i n ≡ f → (u : ℕ) → i ≤ u → u < reach f end → p u ≡ false
unfolding first_from
passed_over p i zero end f s e u lo hi = absurd (let h = rw (← e) at hi in let z : ⊥ = omega arith in z)
passed_over p i (suc n) end f s e u lo hi = go (p i) refl e (λ k l. passed_over p (suc i) n end f (omega arith) k u l hi)
  where
    go : (b : Bool) → p i ≡ b → choose b (at i) (first_from p (suc i) n) ≡ f → (first_from p (suc i) n ≡ f → suc i ≤ u → p u ≡ false) → p u ≡ false
    go true y k r = absurd (let h = rw (← k) at hi in let z : ⊥ = omega arith in z)
    go false y k r = place (eqb i u) refl
      where
        place : (b : Bool) → eqb i u ≡ b → p u ≡ false
        place true t = sym (ap p (eqb-true i u t)) ∙ y
        place false t = let ne = eqb-false i u t in r k (omega arith)

-- what was found is the lowest that passes
pub least : (p : ℕ → Bool) (n t : ℕ) → first_below n p ≡ at t → (u : ℕ) → u < t → p u ≡ false
least p n t e u h = passed_over p 0 n n (at t) (omega arith) e u (omega arith) h

-- where none is found, none passes
pub all-fail : (p : ℕ → Bool) (n : ℕ) → first_below n p ≡ none → (u : ℕ) → u < n → p u ≡ false
all-fail p n e u h = passed_over p 0 n n none (omega arith) e u (omega arith) h

found_from : (p : ℕ → Bool) (t : ℕ) → p t ≡ true → ((u : ℕ) → u < t → p u ≡ false) → (i n : ℕ) → i ≤ t → t < i + n → first_from p i n ≡ at t
unfolding first_from
found_from p t passes below i zero lo hi = absurd (let z : ⊥ = omega arith in z)
found_from p t passes below i (suc n) lo hi = go (eqb i t) refl (λ l. found_from p t passes below (suc i) n l (omega arith))
  where
    go : (b : Bool) → eqb i t ≡ b → (suc i ≤ t → first_from p (suc i) n ≡ at t) → choose (p i) (at i) (first_from p (suc i) n) ≡ at t
    go true e r = let k : i ≡ t = eqb-true i t e in rw (ap p k ∙ passes) (ap at k)
    go false e r = let ne = eqb-false i t e in rw (below i (omega arith)) (r (omega arith))

-- a number that passes, where none below does, is found
pub found : (p : ℕ → Bool) (n t : ℕ) → t < n → p t ≡ true → ((u : ℕ) → u < t → p u ≡ false) → first_below n p ≡ at t
found p n t h passes below = found_from p t passes below 0 n (omega arith) (omega arith)

-- a test that cannot hold
fails : (b : Bool) → (b ≡ true → ⊥) → b ≡ false
fails true never-so = absurd (never-so refl)
fails false never-so = refl

-- a number that passes, where no other does, is found
pub only : (p : ℕ → Bool) (n t : ℕ) → ((u : ℕ) → u < n → p u ≡ true → u ≡ t) → t < n → p t ≡ true → first_below n p ≡ at t
only p n t one h passes = found p n t h passes (λ u l. fails (p u) (λ e. let same = one u (omega arith) e in let z : ⊥ = omega arith in z))

none_from : (p : ℕ → Bool) (m : ℕ) → ((u : ℕ) → u < m → p u ≡ false) → (i n : ℕ) → i + n ≤ m → first_from p i n ≡ none
unfolding first_from
none_from p m no_one i zero h = refl
none_from p m no_one i (suc n) h = rw (no_one i (omega arith)) (none_from p m no_one (suc i) n (omega arith))

-- where none passes, none is found
pub nothing : (p : ℕ → Bool) (n : ℕ) → ((u : ℕ) → u < n → p u ≡ false) → first_below n p ≡ none
nothing p n no_one = none_from p n no_one 0 n (omega arith)

-- compute a number that passes if any does, and is no higher; and test it alone
pub lowest : (p : ℕ → Bool) (n g : ℕ) → g < n → ((u : ℕ) → u < n → p u ≡ true → (g ≤ u) × (p g ≡ true)) → first_below n p ≡ choose (p g) (at g) none
lowest p n g h covers = go (p g) refl
  where
    go : (b : Bool) → p g ≡ b → first_below n p ≡ choose b (at g) none
    go true e = found p n g h e (λ u l. fails (p u) (λ y. let k = (covers u (omega arith) y).0 in let z : ⊥ = omega arith in z))
    go false e = nothing p n (λ u l. fails (p u) (λ y. subst T (sym (covers u l y).1 ∙ e) tt))

-- compute the one number that could pass, and test it alone
pub candidate : (p : ℕ → Bool) (n g : ℕ) → g < n → ((u : ℕ) → u < n → p u ≡ true → u ≡ g) → first_below n p ≡ choose (p g) (at g) none
candidate p n g h one = lowest p n g h (λ u l y. let same = one u l y in (omega arith, ap p (sym same) ∙ y))
