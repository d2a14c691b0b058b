-- A constant's pairs by their places op:cmode:imm8: each record is written as its place's pair.
-- Assumes nothing.
use mathlib.Core.Path.{◌≡◌, refl, sym, ap, ◌∙◌}
use mathlib.Core.Bool.{Bool, true, false}
use mathlib.Core.Logic.{◌≢◌}
use Prim.Native.Nat.{ℕ, ◌+◌, ◌*◌, ◌/◌, ◌%◌, ◌^◌, ◌<◌}
use Prim.Native.String.{String}
use native.Mathlib.Nat.{add-zero}
use native.Mathlib.Omega.{arith}
use lib.Dec.{eqb, lit<}
use lib.Text.{eqt}
use borrow.Author.Tests.{ne_eqb}
use Rattle.laws.specs.Answer.{accepted}
use Rattle.laws.specs.Choice.{choose}
use Rattle.laws.specs.Search.{Found, at, none}
use Rattle.laws.specs.Signed.{twos_complement}
use Rattle.laws.proofs.Range.{values, agree, agree2}
use Rattle.laws.proofs.Search.{hit}
use Rattle.laws.proofs.Never.{never, wrong}
use Rattle.laws.proofs.Tests.{both-no, same_text}
use Rattle.insn.specs.declared.Mark.TheVariants.{T1}
use Rattle.insn.specs.declared.Operand.{Operand}
use Rattle.insn.specs.declared.Operand.TheVariants.{D, Q}
use Rattle.tables.specs.Cells.{cell_at}
use Rattle.immediate_tables.specs.Modimm.{modimm}
use Rattle.fields.specs.Halfwords.{bit, field}
use Rattle.fields.specs.Registers.{vec_of}
use Rattle.immediates.specs.Modified.{byte, constant_at, element, copies, pattern_in, expand_imm, operand_in, needs_nonzero, zero_refused}
use Rattle.immediate_values.proofs.Immediates.{row_of}
use Rattle.write_immediates.specs.Modimm.{modimm_pair}
use Rattle.encode.specs.Writing.{writing}
use Rattle.trips.proofs.RoundModimm.{place-written}
use Rattle.one_pair.specs.One.{setting, one_at, one_for}
use Rattle.one_pair.proofs.Rows.{One as Leaves, says}
use Rattle.recipes.specs.declared.Recipe.TheVariants.{One, Twice, Joined}
use Rattle.recipes.specs.Pairs.{two_of, immediate, by_words, recipe_by, recipe_of, record_at}
use Rattle.recipes.proofs.Writes.{Writes, wrote_as}

-- a place that is read
pub record Read (t : ℕ) : Type 0 where
  pub within : t < 8192
  pub filled : eqt (cell_at modimm (bit 12 t) (field 11 8 t)) "" ≡ false
  pub zero : zero_refused (field 11 8 t) (field 7 0 t) ≡ false

-- a register's operand and number
pub record Register (quad : Bool) (x : Operand) (d : ℕ) : Type 0 where
  pub vec : vec_of quad d ≡ accepted x
  pub small : d < 32

pub double-register : (r : ℕ) → r < 32 → Register false (D r) r
unfolding vec_of
double-register r h = record { vec = refl; small = h }

-- Q14
pub scratch : Register true (Q 14) 28
unfolding vec_of
scratch = record { vec = refl; small = lit< tt }

-- they are written as the place's pair
pub place-writes : {quad : Bool} {x : Operand} {d t : ℕ} → Register quad x d → Read t → writing (record_at x t) ≡ accepted (modimm_pair t quad d)
place-writes {quad} {x} {d} {t} i p =
    let row = row_of t p.within in
    rw row (place-written t d quad T1 0 x p.within i.small i.vec (rw row at p.filled) p.zero)

pub placed : {quad : Bool} {x : Operand} {d t : ℕ} → Register quad x d → Read t → Writes (record_at x t)
placed {quad} {x} {d} {t} i p = wrote_as (record_at x t) (modimm_pair t quad d) (place-writes i p)

-- a name with a number that stands at a place: it is read there, and this is its pattern
pub record Standing (t : ℕ) (name : String) (v p : ℕ) : Type 0 where
  pub read : Read t
  pub spelled : (x : Operand) → record_at x t ≡ two_of name x (immediate v)
  pub expanded : expand_imm (bit 12 t) (field 11 8 t) (field 7 0 t) ≡ accepted p

pub standing-writes : {quad : Bool} {x : Operand} {d t v p : ℕ} {name : String} → Register quad x d → Standing t name v p
    → writing (two_of name x (immediate v)) ≡ accepted (modimm_pair t quad d)
standing-writes {quad} {x} i s = ap writing (sym (s.spelled x)) ∙ place-writes i s.read

pub standing-written : {quad : Bool} {x : Operand} {d t v p : ℕ} {name : String} → Register quad x d → Standing t name v p → Writes (two_of name x (immediate v))
standing-written i s = wrote_as _ _ (standing-writes i s)

-- a byte in a row of op 0
module _ (b c place : ℕ) (name : String) (hb : b < 256) (hc : c < 16) (named : cell_at modimm 0 c ≡ name) (constant : constant_at 0 c ≡ byte 32 place 0) where
  abbrev t : ℕ
  t = c * 256 + b

  top : bit 12 t ≡ 0
  top = omega arith

  middle : field 11 8 t ≡ c
  middle = omega arith

  low : field 7 0 t ≡ b
  low = omega arith

  byte-standing : eqt name "" ≡ false → zero_refused c b ≡ false → Standing t name (b * 2 ^ place) (copies 2 32 (b * 2 ^ place))
  unfolding pattern_in operand_in element
  byte-standing filled zero =
      let same = add-zero (b * 2 ^ place) in
      record {
        read = record { within = omega arith; filled = rw (top, middle, named) filled; zero = rw (middle, low) zero };
        spelled = λ x. rw (top, middle, low, named, constant) (ap (λ (v : ℕ). two_of name x (immediate v)) same);
        expanded = rw (top, middle, low, constant) (ap (λ (v : ℕ). accepted (copies 2 32 v)) same);
      }

-- VMOV.I32 of a byte
pub set-standing : (b : ℕ) → b < 256 → Standing b "vmov.i32" b (copies 2 32 b)
unfolding modimm constant_at needs_nonzero
set-standing b h =
    let here : 0 * 256 + b ≡ b = omega arith in
    let same : b * 2 ^ 0 ≡ b = omega arith in
    rw (here, same) at (byte-standing b 0 0 "vmov.i32" h (lit< tt) refl refl refl (both-no (eqb b 0)))

-- VORR.I32 of a byte at bit 8k, not 0
join-cell : (k : ℕ) → k < 4 → cell_at modimm 0 (2 * k + 1) ≡ "vorr.i32"
unfolding values modimm
join-cell = agree (λ (k : ℕ). cell_at modimm 0 (2 * k + 1)) (λ (k : ℕ). "vorr.i32") 4 refl

join-constant : (k : ℕ) → k < 4 → constant_at 0 (2 * k + 1) ≡ byte 32 (8 * k) 0
unfolding values constant_at
join-constant = agree (λ (k : ℕ). constant_at 0 (2 * k + 1)) (λ (k : ℕ). byte 32 (8 * k) 0) 4 refl

pub join-standing : (k b : ℕ) → k < 4 → b < 256 → b ≢ 0 → Standing ((2 * k + 1) * 256 + b) "vorr.i32" (b * 2 ^ (8 * k)) (copies 2 32 (b * 2 ^ (8 * k)))
join-standing k b hk hb n = byte-standing b (2 * k + 1) (8 * k) "vorr.i32" hb (omega arith) (join-cell k hk) (join-constant k hk) refl (rw (ne_eqb b 0 n))

-- a byte is 0 exactly if it is 0 at its place
pub zero-byte : (k b : ℕ) → k < 4 → b < 256 → eqb (b * 2 ^ (8 * k)) 0 ≡ eqb b 0
unfolding values
zero-byte = agree2 (λ (k b : ℕ). eqb (b * 2 ^ (8 * k)) 0) (λ (k b : ℕ). eqb b 0) 4 256 refl

-- the mask of a low word
pub mask-standing : Standing 0x1e0f "vmov.i64" 4294967295 4294967295
unfolding modimm constant_at pattern_in operand_in element twos_complement needs_nonzero
mask-standing = record { read = record { within = lit< tt; filled = refl; zero = refl }; spelled = λ x. refl; expanded = refl }

-- the one pair of a half
pub one-leaves : (v t : ℕ) → one_for v ≡ at t → Leaves v (bit 12 t) (field 11 8 t) (field 7 0 t) × (t < 8192)
unfolding one_for
one-leaves v t e = let h = hit (one_at v) 8192 t e in (says v (bit 12 t) (field 11 8 t) (field 7 0 t) h.0, h.1)

not-blank : (s : String) → setting s ≡ true → eqt s "" ≡ false
not-blank s e = go (eqt s "") refl
  where
    go : (b : Bool) → eqt s "" ≡ b → b ≡ false
    go true k = let z : s ≡ "" = same_text s "" k in wrong (rw z at e)
    go false k = refl

pub leaves-read : (v t : ℕ) → t < 8192 → Leaves v (bit 12 t) (field 11 8 t) (field 7 0 t) → Read t
leaves-read v t h one = record { within = h; filled = not-blank (cell_at modimm (bit 12 t) (field 11 8 t)) one.named; zero = one.zero }

words-longer : (v t : ℕ) → by_words v ≢ One t
unfolding by_words
words-longer v t = go (eqb (v % 2 ^ 32) (v / 2 ^ 32))
  where
    go : (b : Bool) → choose b (Twice (v % 2 ^ 32)) (Joined (v % 2 ^ 32) (v / 2 ^ 32)) ≢ One t
    go true e = never (cc)
    go false e = never (cc)

pub one_of : (v t : ℕ) → recipe_of v ≡ One t → one_for v ≡ at t
unfolding recipe_of
one_of v t e = go (one_for v) refl
  where
    go : (f : Found) → one_for v ≡ f → f ≡ at t
    go (at u) k = let same : u ≡ t = cc (sym (ap (λ (f : Found). recipe_by f v) k) ∙ e) in ap at same
    go none k = absurd (words-longer v t (sym (ap (λ (f : Found). recipe_by f v) k) ∙ e))
