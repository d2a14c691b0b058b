-- What a mnemonic's number says of its name, and a name of its number: antt computes each.
-- Assumes nothing.
use mathlib.Core.Path.{◌≡◌, refl, sym, ap, ◌∙◌}
use mathlib.Core.Bool.{Bool, true, false}
use Prim.Native.Nat.{ℕ, ◌<◌, ◌≤◌}
use Prim.Native.String.{String}
use lib.Dec.{eqb}
use lib.Text.{eqt}
use native.Mathlib.Omega.{arith}
use borrow.Author.Tests.{ne_eqb}
use Rattle.laws.proofs.Range.{values, agree}
use Rattle.laws.proofs.Tests.{sides}
use Rattle.names.specs.Names.{names, number_of, name_of}
use Rattle.names.proofs.Promises.{numbers_back}
use Rattle.names.proofs.Spellings.{no_name}

-- a mnemonic's number has a name, and no other number has
pub named : (m : ℕ) → m < 346 → eqt (name_of m) "" ≡ false
unfolding values names name_of
named = agree (λ (m : ℕ). eqt (name_of m) "") (λ (m : ℕ). false) 346 refl

pub unnamed : (m : ℕ) → 346 ≤ m → eqt (name_of m) "" ≡ true
unnamed m h = ap (λ (s : String). eqt s "") (no_name m h)

-- a test of the number and one of the name that agree at each mnemonic, and past them all, agree at every number
pub at_every : (f : ℕ → Bool) (p : String → Bool) → values f 0 346 ≡ values (λ (m : ℕ). p (name_of m)) 0 346
    → ((m : ℕ) → 346 ≤ m → f m ≡ p "") → (m : ℕ) → f m ≡ p (name_of m)
at_every f p same past m = sides 346 m (agree f (λ (m : ℕ). p (name_of m)) 346 same m) (λ h. past m h ∙ ap p (sym (no_name m h)))

-- vorr is mnemonic 12, and vmov 345
pub is-vorr : (m : ℕ) → eqb m 12 ≡ eqt (name_of m) "vorr"
unfolding values names name_of
is-vorr = at_every (λ (m : ℕ). eqb m 12) (λ (s : String). eqt s "vorr") refl (λ m h. ne_eqb m 12 (λ k. omega arith))

pub vmov-number : number_of "vmov" ≡ 345
unfolding names number_of
vmov-number = refl

-- a spelling's number, and the spelling back, where a mnemonic is known to have it
module _ (m : ℕ) (s : String) (h : m < 346) (e : name_of m ≡ s) where
  pub number-of : number_of s ≡ m
  number-of = ap number_of (sym e) ∙ numbers_back m h

  pub name_back : name_of (number_of s) ≡ s
  name_back = ap name_of number-of ∙ e
