-- The one place to try: antt computes, at each of the 8192 places, that what a place leaves has a formula's place for its lowest.
-- Assumes nothing.
use mathlib.Core.Path.{◌≡◌, refl, sym, ◌∙◌}
use mathlib.Core.Bool.{Bool, true, false}
use mathlib.Core.Logic.{◌≢◌}
use Prim.Native.Nat.{ℕ, ◌+◌, ◌-◌, ◌*◌, ◌/◌, ◌%◌, ◌<◌, ◌≤◌}
use native.Mathlib.Omega.{arith}
use lib.Dec.{eqb, ltb, leb}
use borrow.Author.Tests.{eqb-true, leb-true, ltb-true, eq-eqb, ne_eqb}
use Rattle.laws.specs.Choice.{choose, both}
use Rattle.laws.specs.Search.{at, none}
use Rattle.laws.proofs.Range.{values, agree}
use Rattle.laws.proofs.Search.{lowest}
use Rattle.laws.proofs.Tests.{both_true}
use Rattle.immediates.specs.Modified.{constant_at, element, pattern_in, needs_nonzero}
use Rattle.immediate_values.specs.Own.{byte_bits, halfword_offset, word_offset}
use Rattle.immediate_values.proofs.Immediates.{row_of}
use Rattle.one_pair.specs.One.{one_at, one_for}
use Rattle.one_pair.specs.Own.{Covers}
use Rattle.one_pair.proofs.Rows.{sets, sets-row, value, readable, its-row, of_row}

-- the code's formulas: where a halfword would stand that fills 64 bits, and a word whose two halfwords differ
abbrev pub halfword_place : ℕ → ℕ
halfword_place h =
    choose (eqb (h % 0x100) (h / 0x100)) (choose (eqb h 0) 0 (0xe00 + h % 0x100))
    (choose (ltb h 0x100) (0x800 + h)
    (choose (eqb (h % 0x100) 0) (0xa00 + h / 0x100)
    (0x1800 + halfword_offset (0xffff - h))))

abbrev pub word_place : ℕ → ℕ
word_place w =
    choose (ltb w 0x100_0000) (choose (eqb w 0xff_ff00) 0x1e66 (word_offset w))
    (choose (eqb (w % 0x100_0000) 0) (word_offset w)
    (choose (eqb (w % 0x1_0000) 0) (choose (ltb w 0xff00_0000) (0xf00 + w / 0x8000_0000 * 0x80 + w / 0x8_0000 % 0x80) (0x1000 + word_offset (0xffff_ffff - w)))
    (choose (eqb w 0xff00_00ff) 0x1e99 (0x1000 + word_offset (0xffff_ffff - w)))))

-- and for any number
abbrev pub guess : ℕ → ℕ
guess v =
    choose (eqb (v % 0x1_0000_0000) (v / 0x1_0000_0000))
    (choose (eqb (v % 0x1_0000_0000 % 0x1_0000) (v % 0x1_0000_0000 / 0x1_0000)) (halfword_place (v % 0x1_0000_0000 % 0x1_0000)) (word_place (v % 0x1_0000_0000)))
    (0x1e00 + byte_bits v)

-- whose three cases are told by the words, and by the halfwords
module _ (v t : ℕ) where
  pub by_bytes : v % 0x1_0000_0000 ≢ v / 0x1_0000_0000 → t ≡ 0x1e00 + byte_bits v → t ≡ guess v
  by_bytes n e = rw (ne_eqb _ _ n) e

  pub by-halfword : v % 0x1_0000_0000 ≡ v / 0x1_0000_0000 → v % 0x1_0000_0000 % 0x1_0000 ≡ v % 0x1_0000_0000 / 0x1_0000
      → t ≡ halfword_place (v % 0x1_0000_0000 % 0x1_0000) → t ≡ guess v
  by-halfword w h e = rw (eq-eqb _ _ w, eq-eqb _ _ h) e

  pub by_word : v % 0x1_0000_0000 ≡ v / 0x1_0000_0000 → v % 0x1_0000_0000 % 0x1_0000 ≢ v % 0x1_0000_0000 / 0x1_0000
      → t ≡ word_place (v % 0x1_0000_0000) → t ≡ guess v
  by_word w n e = rw (eq-eqb _ _ w, ne_eqb _ _ n) e

-- at each of the 8192: a readable place's value has a readable place, no higher, of the same value
abbrev covered : ℕ → Bool
covered t =
    choose (readable t)
    (both (leb (guess (value t)) t)
    (both (readable (guess (value t))) (eqb (value (guess (value t))) (value t))))
    true

all-covered : (t : ℕ) → t < 8192 → covered t ≡ true
unfolding values constant_at element pattern_in needs_nonzero
all-covered = agree covered (λ (t : ℕ). true) 8192 refl

-- rows that set, with op 0 and with op 1
record Row (t : ℕ) : Type 0 where
  row : ℕ
  imm8 : ℕ
  is : t ≡ row * 256 + imm8
  small : imm8 < 256
  low : row < 16
  plain : sets row ≡ true
  turned : sets (16 + row) ≡ true

word_row : (p : ℕ) → p < 0x1_0000_0000 → Row (word_offset p)
word_row p h = go (ltb p 0x100) (ltb p 0x1_0000) (ltb p 0x100_0000) (eqb (p % 0x100) 0) (eqb (p % 0x1_0000) 0) refl refl refl
  where
    go : (a b c x y : Bool) → ltb p 0x100 ≡ a → ltb p 0x1_0000 ≡ b → ltb p 0x100_0000 ≡ c
        → Row (choose a p (choose b (choose x 0x200 0xc00 + p / 0x100) (choose c (choose y 0x400 0xd00 + p / 0x1_0000) (0x600 + p / 0x100_0000 % 256))))
    go true b c x y ea eb ec =
        record { row = 0; imm8 = p; is = omega arith; small = ltb-true p 0x100 ea; low = omega arith; plain = refl; turned = refl }
    go false true c true y ea eb ec =
        record { row = 2; imm8 = p / 0x100; is = omega arith; small = omega (arith, ltb-true p 0x1_0000 eb); low = omega arith; plain = refl; turned = refl }
    go false true c false y ea eb ec =
        record { row = 12; imm8 = p / 0x100; is = omega arith; small = omega (arith, ltb-true p 0x1_0000 eb); low = omega arith; plain = refl; turned = refl }
    go false false true x true ea eb ec =
        record { row = 4; imm8 = p / 0x1_0000; is = omega arith; small = omega (arith, ltb-true p 0x100_0000 ec); low = omega arith; plain = refl; turned = refl }
    go false false true x false ea eb ec =
        record { row = 13; imm8 = p / 0x1_0000; is = omega arith; small = omega (arith, ltb-true p 0x100_0000 ec); low = omega arith; plain = refl; turned = refl }
    go false false false x y ea eb ec =
        record { row = 6; imm8 = p / 0x100_0000 % 256; is = omega arith; small = omega arith; low = omega arith; plain = refl; turned = refl }

-- a place in a row that sets
record Sets (t : ℕ) : Type 0 where
  within : t < 8192
  row-sets : sets (t / 256) ≡ true

at_row : (k b t : ℕ) → k < 32 → b < 256 → t ≡ k * 256 + b → sets k ≡ true → Sets t
at_row k b t hk hb e s =
    let same : t / 256 ≡ k = omega arith in
    record { within = omega arith; row-sets = rw same s }

plain-sets : (t : ℕ) → Row t → Sets t
plain-sets t r = at_row r.row r.imm8 t (omega (arith, r.low)) r.small r.is r.plain

turned-sets : (t : ℕ) → Row t → Sets (0x1000 + t)
turned-sets t r = at_row (16 + r.row) r.imm8 (0x1000 + t) (omega (arith, r.low)) r.small (omega (arith, r.is)) r.turned

halfword-sets : (h : ℕ) → h < 0x1_0000 → Sets (halfword_place h)
halfword-sets h s = go (eqb (h % 0x100) (h / 0x100)) (eqb h 0) (ltb h 0x100) (eqb (h % 0x100) 0) (ltb (0xffff - h) 0x100) refl refl
  where
    go : (a b c d e : Bool) → ltb h 0x100 ≡ c → ltb (0xffff - h) 0x100 ≡ e
        → Sets (choose a (choose b 0 (0xe00 + h % 0x100)) (choose c (0x800 + h) (choose d (0xa00 + h / 0x100) (0x1800 + choose e (0xffff - h) (0x200 + (0xffff - h) / 0x100 % 256)))))
    go true true c d e ec ee = at_row 0 0 _ (omega arith) (omega arith) refl refl
    go true false c d e ec ee = at_row 14 (h % 0x100) _ (omega arith) (omega arith) refl refl
    go false b true d e ec ee = at_row 8 h _ (omega arith) (ltb-true h 0x100 ec) refl refl
    go false b false true e ec ee = at_row 10 (h / 0x100) _ (omega arith) (omega arith) refl refl
    go false b false false true ec ee = at_row 24 (0xffff - h) _ (omega arith) (ltb-true (0xffff - h) 0x100 ee) refl refl
    go false b false false false ec ee = at_row 26 ((0xffff - h) / 0x100 % 256) _ (omega arith) (omega arith) (omega arith) refl

word-sets : (w : ℕ) → w < 0x1_0000_0000 → Sets (word_place w)
word-sets w h = go (ltb w 0x100_0000) (eqb w 0xff_ff00) (eqb (w % 0x100_0000) 0) (eqb (w % 0x1_0000) 0) (ltb w 0xff00_0000) (eqb w 0xff00_00ff)
  where
    here : Row (word_offset w)
    here = word_row w h

    other : Row (word_offset (0xffff_ffff - w))
    other = word_row (0xffff_ffff - w) (omega arith)

    go : (a b c d e f : Bool) → Sets (choose a (choose b 0x1e66 (word_offset w)) (choose c (word_offset w) (choose d (choose e (0xf00 + w / 0x8000_0000 * 0x80 + w / 0x8_0000 % 0x80) (0x1000 + word_offset (0xffff_ffff - w))) (choose f 0x1e99 (0x1000 + word_offset (0xffff_ffff - w))))))
    go true true c d e f = at_row 30 0x66 _ (omega arith) (omega arith) refl refl
    go true false c d e f = plain-sets _ here
    go false b true d e f = plain-sets _ here
    go false b false true true f = at_row 15 (w / 0x8000_0000 * 0x80 + w / 0x8_0000 % 0x80) _ (omega arith) (omega arith) (omega arith) refl
    go false b false true false f = turned-sets _ other
    go false b false false e true = at_row 30 0x99 _ (omega arith) (omega arith) refl refl
    go false b false false e false = turned-sets _ other

guess-sets : (v : ℕ) → Sets (guess v)
guess-sets v = go (eqb (v % 0x1_0000_0000) (v / 0x1_0000_0000)) (eqb (v % 0x1_0000_0000 % 0x1_0000) (v % 0x1_0000_0000 / 0x1_0000))
  where
    go : (a b : Bool) → Sets (choose a (choose b (halfword_place (v % 0x1_0000_0000 % 0x1_0000)) (word_place (v % 0x1_0000_0000))) (0x1e00 + byte_bits v))
    go true true = halfword-sets (v % 0x1_0000_0000 % 0x1_0000) (omega arith)
    go true false = word-sets (v % 0x1_0000_0000) (omega arith)
    go false b = at_row 30 (byte_bits v) _ (omega arith) (omega arith) refl refl

-- what the candidate promises
pub covers : (v t : ℕ) → t ≡ guess v → Covers v t
covers v t e =
    let s = guess-sets v in
    let l : t < 8192 = rw e s.within in
    record {
      within = l;
      named = rw (row_of t l) (sym (sets-row (t / 256) (omega arith)) ∙ rw e s.row-sets);
      lowest = λ u h y. rw e (below u h y);
    }
  where
    below : (u : ℕ) → u < 8192 → one_at v u ≡ true → (guess v ≤ u) × (one_at v (guess v) ≡ true)
    below u h y =
        let r = its-row v u h y in
        let c = rw (r.0, r.1) at (all-covered u h) in
        let x = both_true (leb (guess v) u) _ c in
        let z = both_true (readable (guess v)) _ x.1 in
        (leb-true (guess v) u x.0, of_row v (guess v) (guess-sets v).within z.0 (eqb-true _ v z.1))

-- a word twice, and a halfword twice
word_back : (w : ℕ) → w < 0x1_0000_0000 → (w * 0x1_0000_0001 % 0x1_0000_0000 ≡ w) × (w * 0x1_0000_0001 / 0x1_0000_0000 ≡ w)
word_back w h = (omega arith, omega arith)

halfword-back : (h : ℕ) → h < 0x1_0000 → (h * 0x1_0001 % 0x1_0000 ≡ h) × (h * 0x1_0001 / 0x1_0000 ≡ h)
halfword-back h s = (omega arith, omega arith)

pub covers-halfword : (h t : ℕ) → h < 0x1_0000 → t ≡ halfword_place h → Covers (h * 0x1_0001 * 0x1_0000_0001) t
covers-halfword h t s e =
    let w = word_back (h * 0x1_0001) (omega arith) in
    let b = halfword-back h s in
    covers (h * 0x1_0001 * 0x1_0000_0001) t (by-halfword _ t (w.0 ∙ sym w.1) (rw (w.0, b.0, b.1)) (rw (w.0, b.0) e))

pub covers-word : (w t : ℕ) → w < 0x1_0000_0000 → w % 0x1_0000 ≢ w / 0x1_0000 → t ≡ word_place w → Covers (w * 0x1_0000_0001) t
covers-word w t s n e =
    let b = word_back w s in
    covers (w * 0x1_0000_0001) t (by_word _ t (b.0 ∙ sym b.1) (rw b.0 n) (rw b.0 e))

-- and back
pub twice_word : (v : ℕ) → v % 0x1_0000_0000 ≡ v / 0x1_0000_0000 → v % 0x1_0000_0000 * 0x1_0000_0001 ≡ v
twice_word v e = omega arith

pub twice-halfword : (w : ℕ) → w % 0x1_0000 ≡ w / 0x1_0000 → w % 0x1_0000 * 0x1_0001 ≡ w
twice-halfword w e = omega arith

-- the search, by its candidate
pub found-one : (v t : ℕ) → Covers v t → choose (one_at v t) (at t) none ≡ one_for v
unfolding one_for
found-one v t c = sym (lowest (one_at v) 8192 t c.within c.lowest)
