-- The promise of specs/Writable.antt, from the two round trips.
-- Assumes nothing.
use mathlib.Core.Path.{◌≡◌, refl, sym, ap, ◌∙◌}
use mathlib.Core.Bool.{Bool, true, false}
use mathlib.Core.Logic.{◌≢◌}
use Prim.Native.Nat.{ℕ, zero, suc}
use lib.Dec.{eqb, ltb}
use borrow.Author.Tests.{ne_eqb}
use Rattle.laws.specs.Answer.{Answer, accepted, refused}
use Rattle.laws.specs.Choice.{choose}
use Rattle.laws.proofs.Never.{never, wrong}
use Rattle.laws.proofs.Tests.{passed}
use Rattle.insn.specs.declared.Edition.{Edition}
use Rattle.insn.specs.declared.Insn.{Insn}
use Rattle.insn.specs.declared.Operand.{Operand}
use Rattle.insn.specs.declared.Operand.TheVariants.{Absent}
use Rattle.insn.specs.Record.{place_at, value_or}
use Rattle.names.specs.Names.{name_of}
use Rattle.editions.specs.Editions.{withholds}
use Rattle.homes.specs.Home.{home_of}
use Rattle.homes.specs.declared.Home.{Home}
use Rattle.writings.specs.Forms.{Pair, pair, is_number}
use Rattle.encode.specs.Writing.{writing, writing_in}
use Rattle.trips.specs.Spelling.{Held, spelling, spelled, canonical}
use Rattle.trips.specs.Writable.{PairFor, AnotherValue, another-number, another-float, AnotherOfItsKind, PairForAnother, IsRefused, NothingHeldBack}
use Rattle.trips.proofs.Promises.{read_then_written, written_then_read}
use Rattle.trips.proofs.BySpelling.{asked_in, writing-is, marked-is, read-so, as_read}
use Rattle.trips.proofs.Alike.{alike-number, alike_at}
use Rattle.trips.proofs.Values.{is_refusal}
use Rattle.trips.proofs.ByValue.{value_in, form_in, in-form, form-alike, Through, value-refused, value-nine, through}
use Rattle.trips.proofs.Nines.{alike-nine, Mended, by-second, by-third, mended}

-- what is read so is written
pub written-if-read : (edition : Edition) (i : Insn) → PairFor edition i → (p : Pair) × (writing_in edition i ≡ accepted p)
written-if-read edition i c = (
  pair c.hw1 c.hw2,
  writing-is edition i
      ∙ sym (as_read edition (spelling i))
      ∙ ap (asked_in edition) (sym c.same)
      ∙ sym (marked-is edition c.found c.found.mark c.found.address)
      ∙ read_then_written edition c.hw1 c.hw2 i.address c.found c.found.mark c.found.address c.first-halfword c.second-halfword c.read,
)

-- what is written reads back so
read-if-written : (edition : Edition) (i : Insn) → Held (place_at i 1) → (p : Pair) → writing_in edition i ≡ accepted p → PairFor edition i
read-if-written edition i held (pair hw1 hw2) e =
    let r = written_then_read edition i hw1 hw2 i.address held e in
    record {
      hw1 = hw1;
      hw2 = hw2;
      first-halfword = r.first-halfword;
      second-halfword = r.second-halfword;
      found = spelled (canonical (spelling i)) r.mark i.address;
      read = r.read;
      same = read-so i r.mark i.address;
    }

refused-if-none : (edition : Edition) (i : Insn) → Held (place_at i 1) → ¬ PairFor edition i → IsRefused (writing_in edition i)
refused-if-none edition i held none = go (writing_in edition i) refl
  where
    go : (x : Answer Pair) → writing_in edition i ≡ x → IsRefused (writing_in edition i)
    go (accepted p) e = absurd (none (read-if-written edition i held p e))
    go (refused n) e = (n, e)

none-if-refused : (edition : Edition) (i : Insn) → IsRefused (writing_in edition i) → ¬ PairFor edition i
none-if-refused edition i r c = let taken = (written-if-read edition i c).1 in let lost = r.1 in never (cc)

-- the home of a record's name, what that makes of a value's answer, and the answer to the record's own
abbrev home_for : Insn → Home
home_for i = home_of (name_of i.mnemonic) (is_number (place_at i 2))

abbrev form_for : Insn → Answer ℕ → Answer Pair
form_for i = form_in (home_for i) (name_of i.mnemonic) i.count (place_at i 0) (place_at i 1) (place_at i 2)

abbrev value_for : Insn → Answer ℕ
value_for i = value_in (home_for i) (name_of i.mnemonic) (place_at i 1) (place_at i 2)

form-is : (i : Insn) → writing i ≡ form_for i (value_for i)
unfolding writing
form-is i = in-form (home_for i) (name_of i.mnemonic) i.count (place_at i 0) (place_at i 1) (place_at i 2)

form-through : (i : Insn) → Through (form_for i)
form-through i = through i.mnemonic (is_number (place_at i 2)) (home_for i) refl i.count (place_at i 0) (place_at i 1) (place_at i 2)

-- 9 is for its value, and the form takes any value that has a place
for-value : (i : Insn) → writing i ≡ refused 9 → (value_for i ≡ refused 9) × ((t : ℕ) → (p : Pair) × (form_for i (accepted t) ≡ accepted p))
for-value i r = value-nine (form_for i) (form-through i) (value_for i) (sym (form-is i) ∙ r)

module _ (i j : Insn) (d : AnotherOfItsKind i j) where
  -- it is at home where the record is
  same_home : home_for j ≡ home_for i
  same_home =
      let number = sym (alike-number (place_at i 2) (place_at j 2) (alike_at i j d 2)) in
      λ k. home_of (name_of (d.mnemonic k)) (number k)

  same-form : (value : Answer ℕ) → form_for j value ≡ form_for i value
  same-form value =
      (λ k. form_in (same_home k) (name_of (d.mnemonic k)) (d.count k) (place_at j 0) (place_at j 1) (place_at j 2) value)
      ∙ sym
      (form-alike (place_at i 0) (place_at i 1) (place_at i 2) (place_at j 0) (place_at j 1) (place_at j 2)
      (alike_at i j d 0) (alike_at i j d 1) (alike_at i j d 2) (home_for i) (name_of i.mnemonic) i.count value)

  same-value : value_for j ≡ value_in (home_for i) (name_of i.mnemonic) (place_at j 1) (place_at j 2)
  same-value = λ k. value_in (same_home k) (name_of (d.mnemonic k)) (place_at j 1) (place_at j 2)

  -- one written and the other refused: refused with 9
  nine-for : (p : Pair) (n : ℕ) → writing j ≡ accepted p → writing i ≡ refused n → n ≡ 9
  nine-for p n e r =
      let v = value-refused (form_for i) (form-through i) (value_for i) (value_for j) p n (sym (same-form (value_for j)) ∙ sym (form-is j) ∙ e) (sym (form-is i) ∙ r) in
      alike-nine (home_for i) (name_of i.mnemonic) (place_at i 1) (place_at i 2) (place_at j 1) (place_at j 2) n v.0.0 (alike_at i j d 1) (alike_at i j d 2) (sym same-value ∙ v.0.1) v.1

nine-if-another : (edition : Edition) (i : Insn) → Held (place_at i 1) → ¬ PairFor edition i → PairForAnother edition i → writing_in edition i ≡ refused 9
nine-if-another edition i held none a =
    let j = a.other in
    let w = written-if-read edition j a.pair-for in
    let r = refused-if-none edition i held none in
    let pj = passed (withholds edition (name_of j.mnemonic)) 7 (writing j) w.0 w.1 in
    let here : withholds edition (name_of i.mnemonic) ≡ false = rw a.another.mnemonic at pj.0 in
    let ri : writing i ≡ refused r.0 = rw here at r.1 in
    r.1 ∙ ap refused (nine-for i j a.another w.0 r.0 pj.1 ri)

-- a record with another operand at a place
abbrev changed : Insn → ℕ → Operand → Insn
changed i k o =
    record {
      mnemonic = i.mnemonic;
      mark = i.mark;
      address = i.address;
      count = i.count;
      first = choose (eqb k 0) o i.first;
      second = choose (eqb k 1) o i.second;
      third = choose (eqb k 2) o i.third;
    }

unchanged : (i : Insn) (k : ℕ) (o : Operand) (n : ℕ) → n ≢ k → place_at (changed i k o) n ≡ place_at i n
unfolding place_at
unchanged i k o zero other = rw (ne_eqb k 0 (λ e. other (sym e)))
unchanged i k o (suc zero) other = rw (ne_eqb k 1 (λ e. other (sym e)))
unchanged i k o (suc (suc zero)) other = rw (ne_eqb k 2 (λ e. other (sym e)))
unchanged i k o (suc (suc (suc n))) other = refl

-- a place that has a value is within the count
has_value : (p o : Operand) → AnotherValue p o → value_or (λ v. true) (λ x. true) false p ≡ true
has_value p o (another-number v w n h) = refl
has_value p o (another-float x y n h) = refl

within : (b : Bool) (p o : Operand) → AnotherValue (choose b p Absent) o → choose b o Absent ≡ o
within true p o a = refl
within false p o a = wrong (has_value Absent o a)

second_is : (i : Insn) (o : Operand) → AnotherValue (place_at i 1) o → place_at (changed i 1 o) 1 ≡ o
unfolding place_at
second_is i o a = within (ltb 1 i.count) i.second o a

third-is : (i : Insn) (o : Operand) → AnotherValue (place_at i 2) o → place_at (changed i 2 o) 2 ≡ o
unfolding place_at
third-is i o a = within (ltb 2 i.count) i.third o a

held-another : (p o : Operand) → AnotherValue p o → Held o
held-another p o (another-number v w n h) = tt
held-another p o (another-float x y n h) = h

-- a record that is refused with 9 is written with another value that has a place
module _ (edition : Edition) (i : Insn) (kept : withholds edition (name_of i.mnemonic) ≡ false) (r : writing i ≡ refused 9)
    (k : ℕ) (o : Operand) (a : AnotherValue (place_at i k) o) (is : place_at (changed i k o) k ≡ o) where
  abbrev j : Insn
  j = changed i k o

  d : AnotherOfItsKind i j
  d = record { mnemonic = refl; mark = refl; address = refl; count = refl; place = k; value = rw is a; elsewhere = unchanged i k o }

  pair-by : (t : ℕ) → value_in (home_for i) (name_of i.mnemonic) (place_at j 1) (place_at j 2) ≡ accepted t → Held (place_at j 1) → PairForAnother edition i
  pair-by t e held =
      let taken = (for-value i r).1 t in
      let w : writing j ≡ accepted taken.0 = form-is j ∙ ap (form_for j) (same-value i j d ∙ e) ∙ same-form i j d (accepted t) ∙ taken.1 in
      record { other = j; another = d; pair-for = read-if-written edition j held taken.0 (rw kept w) }

another-if-nine : (edition : Edition) (i : Insn) → Held (place_at i 1) → writing_in edition i ≡ refused 9 → PairForAnother edition i
another-if-nine edition i held r = go (withholds edition (name_of i.mnemonic)) refl r
  where
    go : (b : Bool) → withholds edition (name_of i.mnemonic) ≡ b → choose b (refused 7) (writing i) ≡ refused 9 → PairForAnother edition i
    go true kept e = wrong (ap (is_refusal 9) e)
    go false kept e = by (mended i.mnemonic (is_number (place_at i 2)) (home_for i) refl (place_at i 1) (place_at i 2) (for-value i e).0)
      where
        by : Mended (home_for i) (name_of i.mnemonic) (place_at i 1) (place_at i 2) → PairForAnother edition i
        by (by-second o a t q) =
            let is = second_is i o a in
            pair-by edition i kept e 1 o a is t (rw (is, unchanged i 1 o 2 (λ n. never (cc))) q) (rw is (held-another (place_at i 1) o a))
        by (by-third o a t q) =
            let is = third-is i o a in
            let second = unchanged i 2 o 1 (λ n. never (cc)) in
            pair-by edition i kept e 2 o a is t (rw (is, second) q) (rw second held)

pub nothing_held_back : NothingHeldBack
nothing_held_back edition i held =
    record {
      refused-if-none = refused-if-none edition i held;
      none-if-refused = none-if-refused edition i;
      nine-if-another = nine-if-another edition i held;
      another-if-nine = λ r. (none-if-refused edition i (9, r), another-if-nine edition i held r);
    }
