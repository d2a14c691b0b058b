-- No mnemonic's spelling has a space in it, so that the first space of its row ends it.
-- Assumes nothing.
use mathlib.Core.Path.{◌≡◌, refl, sym, ap, ◌∙◌}
use mathlib.Core.Logic.{◌≢◌}
use mathlib.Core.Bool.{Bool, true, false}
use mathlib.Core.List.{List, [], ◌∷◌}
use Prim.Native.Nat.{ℕ, zero, suc, ◌+◌, ◌-◌, ◌*◌, ◌<◌, ◌≤◌}
use Prim.Native.String.{String}
use native.Mathlib.Nat.{add-zero, not-suc-le-zero, le_of_suc-le-suc}
use native.Mathlib.Omega.{arith}
use lib.Dec.{eqb, leb, ltb}
use lib.ListN.{length, get_or, take, drop, length-drop, get_or-eq_default}
use lib.Seq.{get_or-drop}
use borrow.Author.Tests.{eq-eqb, leb-true, ltb-true, ltb-false}
use Rattle.laws.specs.Choice.{choose}
use Rattle.laws.proofs.Range.{values, agree}
use Rattle.laws.proofs.Never.{wrong}
use Rattle.names.specs.Names.{names, name_of, codes}
use Rattle.names.specs.Own.{name_byte, NameTable}
use Rattle.names.proofs.Spellings.{short}

plain : List ℕ → Bool
plain [] = true
plain (b ∷ l) = choose (eqb b 32) false (plain l)

all_plain : List String → Bool
all_plain [] = true
all_plain (s ∷ ss) = choose (plain (codes s)) (all_plain ss) false

spelled : all_plain names ≡ true
unfolding names codes plain all_plain
spelled = refl

plain-name : (ss : List String) (m : ℕ) → all_plain ss ≡ true → plain (codes (get_or ss m "")) ≡ true
unfolding all_plain plain codes
plain-name [] m e = refl
plain-name (s ∷ ss) zero e = go (plain (codes s)) refl e
  where
    go : (b : Bool) → plain (codes s) ≡ b → choose b (all_plain ss) false ≡ true → plain (codes s) ≡ true
    go true q e = q
    go false q e = wrong e
plain-name (s ∷ ss) (suc m) e = go (plain (codes s)) e (plain-name ss m)
  where
    go : (b : Bool) → choose b (all_plain ss) false ≡ true → (all_plain ss ≡ true → plain (codes (get_or ss m "")) ≡ true) → plain (codes (get_or ss m "")) ≡ true
    go true e i = i e
    go false e i = wrong e

plain_byte : (l : List ℕ) (j : ℕ) → plain l ≡ true → j < length l → get_or l j 32 ≢ 32
unfolding plain
plain_byte [] j e h = absurd (not-suc-le-zero h)
plain_byte (b ∷ l) zero e h = λ q. wrong (ap (λ (t : Bool). choose t false (plain l)) (sym (eq-eqb b 32 q)) ∙ e)
plain_byte (b ∷ l) (suc j) e h = go (eqb b 32) e (plain_byte l j)
  where
    go : (t : Bool) → choose t false (plain l) ≡ true → (plain l ≡ true → j < length l → get_or l j 32 ≢ 32) → get_or l j 32 ≢ 32
    go true e i = wrong e
    go false e i = i e (le_of_suc-le-suc h)

-- a space is past the end
pub ended : (m j : ℕ) → name_byte m j ≡ 32 → length (codes (name_of m)) ≤ j
unfolding name_byte name_of
ended m j e = go (ltb j (length (codes (get_or names m "")))) refl
  where
    go : (t : Bool) → ltb j (length (codes (get_or names m ""))) ≡ t → length (codes (get_or names m "")) ≤ j
    go true q = absurd (plain_byte (codes (get_or names m "")) j (plain-name names m spelled) (ltb-true j _ q) e)
    go false q = ltb-false j _ q

-- and nothing else is
pub going : (m j : ℕ) → name_byte m j ≢ 32 → j < length (codes (name_of m))
unfolding name_byte
going m j n = go (ltb j (length (codes (name_of m)))) refl
  where
    go : (t : Bool) → ltb j (length (codes (name_of m))) ≡ t → j < length (codes (name_of m))
    go true q = ltb-true j _ q
    go false q = absurd (n (get_or-eq_default (codes (name_of m)) 32 (ltb-false j _ q)))

-- within the spelling, a byte is what every default gives
name-byte : (m j d : ℕ) → j < length (codes (name_of m)) → name_byte m j ≡ get_or (codes (name_of m)) j d
unfolding name_byte
name-byte m j d h = within (codes (name_of m)) j h
  where
    within : (l : List ℕ) (j : ℕ) → j < length l → get_or l j 32 ≡ get_or l j d
    within [] j h = absurd (not-suc-le-zero h)
    within (x ∷ l) zero h = refl
    within (x ∷ l) (suc j) h = within l j (le_of_suc-le-suc h)

-- every mnemonic has at least four bytes
four : (m : ℕ) → m < 346 → 4 ≤ length (codes (name_of m))
unfolding values names name_of codes
four m h = leb-true 4 (length (codes (name_of m))) (agree (λ (m : ℕ). leb 4 (length (codes (name_of m)))) (λ (m : ℕ). true) 346 refl m h)

take-four : (s : List ℕ) → 4 ≤ length s → take 4 s ≡ get_or s 0 0 ∷ get_or s 1 0 ∷ get_or s 2 0 ∷ get_or s 3 0 ∷ []
take-four [] h = absurd (let z : ⊥ = omega arith in z)
take-four (a ∷ []) h = absurd (let z : ⊥ = omega arith in z)
take-four (a ∷ b ∷ []) h = absurd (let z : ⊥ = omega arith in z)
take-four (a ∷ b ∷ c ∷ []) h = absurd (let z : ⊥ = omega arith in z)
take-four (a ∷ b ∷ c ∷ d ∷ s) h = refl

pub begins : (t : List ℕ) → NameTable t → (m : ℕ) → m < 346 →
    take 4 (codes (name_of m)) ≡ get_or t (m * 12) 0 ∷ get_or t (m * 12 + 1) 0 ∷ get_or t (m * 12 + 2) 0 ∷ get_or t (m * 12 + 3) 0 ∷ []
begins t n m h =
    let k = four m h in
    let b : get_or t (m * 12) 0 ≡ get_or (codes (name_of m)) 0 0 = rw add-zero at (n.bytes m 0 h (omega arith)) ∙ name-byte m 0 0 (omega (arith, k)) in
    take-four (codes (name_of m)) k
    ∙ rw (
      b,
      n.bytes m 1 h (omega arith) ∙ name-byte m 1 0 (omega (arith, k)),
      n.bytes m 2 h (omega arith) ∙ name-byte m 2 0 (omega (arith, k)),
      n.bytes m 3 h (omega arith) ∙ name-byte m 3 0 (omega (arith, k)),
    )

-- what comes after the first four
pub ending-byte : (m j : ℕ) → 4 + j < length (codes (name_of m)) → name_byte m (4 + j) ≡ get_or (drop 4 (codes (name_of m))) j 0
ending-byte m j h = name-byte m (4 + j) 0 h ∙ sym (get_or-drop 4 (codes (name_of m)) j 0)

pub ending-length : (m : ℕ) → (length (drop 4 (codes (name_of m))) ≡ length (codes (name_of m)) - 4) × (length (codes (name_of m)) ≤ 12)
ending-length m = (length-drop 4 (codes (name_of m)), short m)
