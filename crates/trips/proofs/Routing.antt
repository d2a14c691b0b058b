-- The fixed bits of each family, from its family and to it; and the fields of a cell's place and of a register's number.
-- Assumes nothing.
use mathlib.Core.Path.{◌≡◌, refl, sym}
use mathlib.Core.Bool.{Bool, true, false, not}
use Prim.Native.Nat.{ℕ, ◌+◌, ◌*◌, ◌/◌, ◌%◌, ◌<◌}
use native.Mathlib.Omega.{arith}
use lib.Dec.{eqb}
use borrow.Author.Tests.{eq-eqb, ne_eqb, eqb-true, eqb-false}
use Rattle.laws.specs.Choice.{choose}
use Rattle.fields.specs.Halfwords.{bit, field}
use Rattle.fields.specs.Registers.{dnum_of}
use Rattle.amounts.specs.Shifts.{is_escape}
use Rattle.readings.specs.Operands.{is_set}
use Rattle.decode.specs.Reading.{is_data_processing, family_of}
use Rattle.decode.specs.declared.Family.{Family}
use Rattle.decode.specs.declared.Family.TheVariants.{ThreeSame, ThreeDifferent, Shift, ModifiedImmediate, NoFamily}
use Rattle.writings.specs.Forms.{cell_of, as_bit}
use Rattle.laws.proofs.Tests.{both_true}

pub record SameBits (hw1 : ℕ) : Type 0 where
  pub top : field 15 13 hw1 ≡ 7
  pub middle : field 11 8 hw1 ≡ 15
  pub a : bit 7 hw1 ≡ 0

pub record DiffBits (hw1 hw2 : ℕ) : Type 0 where
  pub top : field 15 13 hw1 ≡ 7
  pub middle : field 11 8 hw1 ≡ 15
  pub a : bit 7 hw1 ≡ 1
  pub b4 : bit 4 hw2 ≡ 0
  pub b6 : bit 6 hw2 ≡ 0
  pub sized : eqb (field 5 4 hw1) 3 ≡ false

pub record ImmediateBits (hw1 hw2 : ℕ) (escape : Bool) : Type 0 where
  pub top : field 15 13 hw1 ≡ 7
  pub middle : field 11 8 hw1 ≡ 15
  pub a : bit 7 hw1 ≡ 1
  pub b4 : bit 4 hw2 ≡ 1
  pub escapes : is_escape (bit 7 hw2) (field 5 0 hw1) ≡ escape

module _ (hw1 hw2 : ℕ) where
  processing : field 15 13 hw1 ≡ 7 → field 11 8 hw1 ≡ 15 → is_data_processing hw1 ≡ true
  processing top middle = rw (eq-eqb _ 7 top, eq-eqb _ 15 middle)

  one_not_zero : (b : ℕ) → b ≡ 1 → eqb b 0 ≡ false
  one_not_zero b e = ne_eqb b 0 (λ z. omega arith)

  zero-not-one : (b : ℕ) → b ≡ 0 → eqb b 1 ≡ false
  zero-not-one b e = ne_eqb b 1 (λ z. omega arith)

  pub to_same : SameBits hw1 → family_of hw1 hw2 ≡ ThreeSame
  unfolding family_of
  to_same s = rw (processing s.top s.middle, eq-eqb _ 0 s.a)

  pub to-diff : DiffBits hw1 hw2 → family_of hw1 hw2 ≡ ThreeDifferent
  unfolding family_of
  to-diff s =
      rw (processing s.top s.middle, one_not_zero _ s.a, zero-not-one _ s.b4, zero-not-one _ s.b6, s.sized)

  pub to-shift : ImmediateBits hw1 hw2 false → family_of hw1 hw2 ≡ Shift
  unfolding family_of
  to-shift s = rw (processing s.top s.middle, one_not_zero _ s.a, eq-eqb _ 1 s.b4, s.escapes)

  pub to-modimm : ImmediateBits hw1 hw2 true → family_of hw1 hw2 ≡ ModifiedImmediate
  unfolding family_of
  to-modimm s = rw (processing s.top s.middle, one_not_zero _ s.a, eq-eqb _ 1 s.b4, s.escapes)

  abbrev pub Route : Family → Type 0
  Route ThreeSame = SameBits hw1
  Route ThreeDifferent = DiffBits hw1 hw2
  Route Shift = ImmediateBits hw1 hw2 false
  Route ModifiedImmediate = ImmediateBits hw1 hw2 true
  Route NoFamily = Unit {0}

  bit-one : (b : ℕ) → eqb (b % 2) 0 ≡ false → b % 2 ≡ 1
  bit-one b e = let n = eqb-false (b % 2) 0 e in omega arith

  bit-zero : (b : ℕ) → eqb (b % 2) 1 ≡ false → b % 2 ≡ 0
  bit-zero b e = let n = eqb-false (b % 2) 1 e in omega arith

  pub routed : Route (family_of hw1 hw2)
  unfolding family_of
  routed =
      go (is_data_processing hw1) (eqb (bit 7 hw1) 0) (is_set (bit 4 hw2)) (is_escape (bit 7 hw2) (field 5 0 hw1)) (is_set (bit 6 hw2)) (eqb (field 5 4 hw1) 3)
      refl refl refl refl refl refl
    where
      go : (p b c d e f : Bool) → is_data_processing hw1 ≡ p → eqb (bit 7 hw1) 0 ≡ b → is_set (bit 4 hw2) ≡ c
          → is_escape (bit 7 hw2) (field 5 0 hw1) ≡ d → is_set (bit 6 hw2) ≡ e → eqb (field 5 4 hw1) 3 ≡ f
          → Route (choose (not p) NoFamily (choose b ThreeSame (choose c (choose d ModifiedImmediate Shift) (choose e NoFamily (choose f NoFamily ThreeDifferent)))))
      go false b c d e f ep eb ec ed ee ef = tt
      go true true c d e f ep eb ec ed ee ef =
          let t = both_true (eqb (field 15 13 hw1) 7) _ ep in
          record { top = eqb-true _ 7 t.0; middle = eqb-true _ 15 t.1; a = eqb-true _ 0 eb }
      go true false true true e f ep eb ec ed ee ef =
          let t = both_true (eqb (field 15 13 hw1) 7) _ ep in
          record { top = eqb-true _ 7 t.0; middle = eqb-true _ 15 t.1; a = bit-one _ eb; b4 = eqb-true _ 1 ec; escapes = ed }
      go true false true false e f ep eb ec ed ee ef =
          let t = both_true (eqb (field 15 13 hw1) 7) _ ep in
          record { top = eqb-true _ 7 t.0; middle = eqb-true _ 15 t.1; a = bit-one _ eb; b4 = eqb-true _ 1 ec; escapes = ed }
      go true false false d true f ep eb ec ed ee ef = tt
      go true false false d false true ep eb ec ed ee ef = tt
      go true false false d false false ep eb ec ed ee ef =
          let t = both_true (eqb (field 15 13 hw1) 7) _ ep in
          record { top = eqb-true _ 7 t.0; middle = eqb-true _ 15 t.1; a = bit-one _ eb; b4 = bit-zero _ ec; b6 = bit-zero _ ee; sized = ef }

-- a bit as a Bool, and back
pub set-bit : (b : ℕ) → b < 2 → as_bit (is_set b) ≡ b
set-bit b h = go (eqb b 1) refl
  where
    go : (s : Bool) → eqb b 1 ≡ s → as_bit s ≡ b
    go true e = sym (eqb-true b 1 e)
    go false e = let n = eqb-false b 1 e in omega arith

pub bit-set : (quad : Bool) → is_set (as_bit quad) ≡ quad
bit-set true = refl
bit-set false = refl

pub bit-small : (quad : Bool) → as_bit quad < 2
bit-small true = omega arith
bit-small false = omega arith

-- a register's number
module _ (d : ℕ) (h : d < 32) where
  pub number-back : dnum_of (bit 4 d) (field 3 0 d) ≡ d
  number-back = omega arith

pub record NumberFields (hi lo : ℕ) : Type 0 where
  pub hi-back : bit 4 (dnum_of hi lo) ≡ hi
  pub lo_back : field 3 0 (dnum_of hi lo) ≡ lo
  pub small : dnum_of hi lo < 32

number-fields : (hi lo : ℕ) → hi < 2 → lo < 16 → NumberFields hi lo
number-fields hi lo hh hl = record { hi-back = omega arith; lo_back = omega arith; small = omega arith }

-- the registers of a pair
module _ (hw1 hw2 : ℕ) where
  abbrev pub d_of : ℕ
  d_of = dnum_of (bit 6 hw1) (field 15 12 hw2)

  abbrev pub n_of : ℕ
  n_of = dnum_of (bit 7 hw2) (field 3 0 hw1)

  abbrev pub m_of : ℕ
  m_of = dnum_of (bit 5 hw2) (field 3 0 hw2)

  pub d-fields : NumberFields (bit 6 hw1) (field 15 12 hw2)
  d-fields = number-fields (bit 6 hw1) (field 15 12 hw2) (omega arith) (omega arith)

  pub n-fields : NumberFields (bit 7 hw2) (field 3 0 hw1)
  n-fields = number-fields (bit 7 hw2) (field 3 0 hw1) (omega arith) (omega arith)

  pub m-fields : NumberFields (bit 5 hw2) (field 3 0 hw2)
  m-fields = number-fields (bit 5 hw2) (field 3 0 hw2) (omega arith) (omega arith)

-- a cell of a table with four columns
pub record CellFields (u o b s : ℕ) : Type 0 where
  pub u-back : bit 7 (cell_of u o b s) ≡ u
  pub o-back : field 6 3 (cell_of u o b s) ≡ o
  pub b-back : bit 2 (cell_of u o b s) ≡ b
  pub s-back : field 1 0 (cell_of u o b s) ≡ s
  pub row : cell_of u o b s / 4 ≡ u * 32 + o * 2 + b
  pub column : cell_of u o b s % 4 ≡ s
  pub small : cell_of u o b s < 256

pub cell-fields : (u o b s : ℕ) → u < 2 → o < 16 → b < 2 → s < 4 → CellFields u o b s
cell-fields u o b s hu ho hb hs =
    record {
      u-back = omega arith;
      o-back = omega arith;
      b-back = omega arith;
      s-back = omega arith;
      row = omega arith;
      column = omega arith;
      small = omega arith;
    }

-- the lower six bits as two and four
pub upper-two : (h x y : ℕ) → y < 16 → field 5 0 h ≡ x * 16 + y → field 5 4 h ≡ x
upper-two h x y l e = omega arith

pub lower-four : (h x y : ℕ) → y < 16 → field 5 0 h ≡ x * 16 + y → field 3 0 h ≡ y
lower-four h x y l e = omega arith

pub six : (h : ℕ) → field 5 4 h * 16 + field 3 0 h ≡ field 5 0 h
six h = omega arith
