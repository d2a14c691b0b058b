-- The promises of specs/Promises.antt.
-- Assumes nothing.
use mathlib.Core.Path.{◌≡◌, refl, sym, ap, ◌∙◌}
use mathlib.Core.Bool.{Bool, true, false}
use Prim.Native.Nat.{ℕ, zero, suc, ◌+◌, ◌<◌}
use native.Mathlib.Omega.{arith}
use lib.Dec.{eqb}
use borrow.Author.Tests.{eqb-true}
use Rattle.laws.specs.Choice.{choose, both}
use Rattle.laws.specs.Search.{Found, at, none}
use Rattle.laws.proofs.Never.{wrong}
use Rattle.laws.proofs.Search.{hit}
use Rattle.laws.proofs.Tests.{same_tests, both_true}
use Rattle.immediate_tables.specs.Modimm.{modimm}
use Rattle.fields.specs.Halfwords.{bit, field}
use Rattle.immediates.specs.Modified.{constant_at, element, pattern_in, needs_nonzero}
use Rattle.one_pair.specs.One.{is_one, one_at, one_for}
use Rattle.one_pair.specs.Promises.{WorkedPlaces, left_at, is_at, count_below, HowMany}
use Rattle.one_pair.proofs.Guess.{guess, covers, found-one}
use Rattle.one_pair.proofs.Rows.{says, value, readable, its-row, of_row}

-- the search is its one candidate, tested
by-guess : (v : ℕ) → one_for v ≡ choose (one_at v (guess v)) (at (guess v)) none
by-guess v = sym (found-one v (guess v) (covers v (guess v) refl))

pub worked_places : WorkedPlaces
unfolding is_one modimm needs_nonzero constant_at element pattern_in
worked_places = (by-guess 0, by-guess 0xffff_ffff_ffff_ffff, by-guess 0xffff_ff00_ffff_ff00, by-guess 0x3f80_0000_3f80_0000, by-guess 0xff, by-guess 1)

count_same : (p q : ℕ → Bool) (n : ℕ) → ((t : ℕ) → t < n → p t ≡ q t) → count_below n p ≡ count_below n q
unfolding count_below
count_same p q zero same = refl
count_same p q (suc n) same =
    ap (λ (b : Bool). choose b 1 0 + count_below n p) (same n (omega arith)) ∙ ap (λ (k : ℕ). choose (q n) 1 0 + k) (count_same p q n (λ t h. same t (omega arith)))

-- the place t is the lowest for what it leaves exactly if it is read and the formula's
module _ (t : ℕ) (h : t < 8192) where
  abbrev lowest : Bool
  lowest = both (readable t) (eqb (guess (value t)) t)

  is-lowest : (v : ℕ) → is_at t (one_for v) ≡ true → one_at v t ≡ true
  unfolding one_for
  is-lowest v e = go (one_for v) refl e
    where
      go : (f : Found) → one_for v ≡ f → is_at t f ≡ true → one_at v t ≡ true
      go (at u) k s = let same = eqb-true u t s in ap (one_at v) (sym same) ∙ (hit (one_at v) 8192 u k).0
      go none k s = wrong s

  by-test : (b : Bool) (g : ℕ) → is_at t (choose b (at g) none) ≡ true → eqb g t ≡ true
  by-test true g e = e
  by-test false g e = wrong e

  left-value : readable t ≡ true → left_at t ≡ value t
  left-value r =
      let one = says (value t) (bit 12 t) (field 11 8 t) (field 7 0 t) (of_row (value t) t h r refl) in
      rw one.expanded one.left

  there : is_at t (one_for (left_at t)) ≡ true → lowest ≡ true
  there e =
      let r = its-row (left_at t) t h (is-lowest (left_at t) e) in
      let g = by-test (one_at (left_at t) (guess (left_at t))) (guess (left_at t)) (sym (ap (is_at t) (by-guess (left_at t))) ∙ e) in
      rw (r.0, r.1) g

  back : lowest ≡ true → is_at t (one_for (left_at t)) ≡ true
  back e =
      let x = both_true (readable t) _ e in
      let same = eqb-true (guess (value t)) t x.1 in
      let passes = ap (one_at (value t)) same ∙ of_row (value t) t h x.0 refl in
      ap (λ (v : ℕ). is_at t (one_for v)) (left-value x.0) ∙ ap (is_at t) (by-guess (value t)) ∙ ap (λ (b : Bool). is_at t (choose b (at (guess (value t))) none)) passes ∙ x.1

pub how_many : HowMany
unfolding count_below constant_at element pattern_in needs_nonzero
how_many = count_same _ (λ (t : ℕ). both (readable t) (eqb (guess (value t)) t)) 8192 (λ t h. same_tests _ _ (there t h) (back t h)) ∙ refl
