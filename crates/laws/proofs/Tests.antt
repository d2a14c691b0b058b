-- What a test of the code says of the test of a definition, each way; and what tests that hold, or fail, say.
-- Assumes nothing.
use mathlib.Core.Path.{◌≡◌, refl, sym, subst}
use mathlib.Core.Bool.{Bool, true, false, not}
use Prim.Native.Nat.{ℕ, ◌≤◌, ◌<◌}
use Prim.Native.String.{String}
use lib.Dec.{T, ltb}
use lib.Text.{eqt, eqt→eq}
use borrow.Author.Tests.{lt-ltb, le-ltb, le-leb, lt-leb, eq-eqb, ne_eqb, ltb-true, ltb-false}
use Rattle.laws.specs.Answer.{Answer, accepted, refused}
use Rattle.laws.specs.Choice.{choose, both}
use Rattle.laws.proofs.Never.{never, wrong}

pub ruleset tests = (lt-ltb, le-ltb, le-leb, lt-leb, eq-eqb, ne_eqb)

-- either side of a bound
pub sides : {P : Type 0} (h x : ℕ) → (x < h → P) → (h ≤ x → P) → P
sides {P} h x f g = by (ltb x h) refl
  where
    by : (t : Bool) → ltb x h ≡ t → P
    by true e = f (ltb-true x h e)
    by false e = g (ltb-false x h e)

-- both tests hold
pub both_true : (a b : Bool) → both a b ≡ true → (a ≡ true) × (b ≡ true)
both_true true b e = (refl, e)
both_true false b e = wrong e

pub both-no : (b : Bool) → both b false ≡ false
both-no true = refl
both-no false = refl

-- tests that follow from each other are the same
pub same_tests : (a b : Bool) → (a ≡ true → b ≡ true) → (b ≡ true → a ≡ true) → a ≡ b
same_tests true true f g = refl
same_tests true false f g = wrong (f refl)
same_tests false true f g = wrong (g refl)
same_tests false false f g = refl

pub not-holds : (a : Bool) → not a ≡ true → a ≡ false
not-holds true e = wrong e
not-holds false e = refl

pub same_text : (s t : String) → eqt s t ≡ true → s ≡ t
same_text s t e = eqt→eq s t (subst T (sym e) tt)

-- what an accepted answer is made of
pub chosen : {A : Type 0} (b : Bool) (x : Answer A) (n : ℕ) (a : A) → choose b x (refused n) ≡ accepted a → (b ≡ true) × (x ≡ accepted a)
chosen true x n a e = (refl, e)
chosen false x n a e = never (cc)

pub passed : {A : Type 0} (b : Bool) (n : ℕ) (x : Answer A) (a : A) → choose b (refused n) x ≡ accepted a → (b ≡ false) × (x ≡ accepted a)
passed true n x a e = never (cc)
passed false n x a e = (refl, e)
