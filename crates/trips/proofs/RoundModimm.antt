-- One register and a modified immediate: written and read again, and read and written again.
-- Assumes nothing.
use mathlib.Core.Path.{◌≡◌, refl, sym, ap, ◌∙◌}
use mathlib.Core.Bool.{Bool, true, false}
use Prim.Native.Nat.{ℕ, ◌+◌, ◌*◌, ◌/◌, ◌%◌, ◌<◌}
use Prim.Native.String.{String}
use native.Mathlib.Omega.{arith}
use lib.Dec.{eqb}
use lib.Ieee as Ieee
use lib.IntN.{ℤ, pos}
use lib.Text.{eqt}
use borrow.Author.Tests.{eq-eqb, eqb-true}
use Rattle.laws.specs.Answer.{Answer, accepted, refused}
use Rattle.laws.specs.Choice.{both}
use Rattle.laws.specs.Signed.{twos_complement}
use Rattle.laws.proofs.Digits.{digit}
use Rattle.laws.proofs.Range.{values, agree}
use Rattle.laws.proofs.Search.{hit, only}
use Rattle.laws.proofs.Never.{never, wrong}
use Rattle.insn.specs.declared.Edition.TheVariants.{C}
use Rattle.insn.specs.declared.Insn.{Insn}
use Rattle.insn.specs.declared.Mark.{Mark}
use Rattle.insn.specs.declared.Mark.TheVariants.{T1}
use Rattle.insn.specs.declared.Operand.{Operand}
use Rattle.insn.specs.declared.Operand.TheVariants.{D, Q, S, Imm, Float, Other, Absent}
use Rattle.insn.specs.Record.{place_at}
use Rattle.tables.specs.Cells.{cell_at}
use Rattle.names.specs.Names.{name_of, number_of}
use Rattle.homes.specs.Home.{home_of}
use Rattle.immediate_tables.specs.Modimm.{modimm}
use Rattle.homes.specs.declared.Home.TheVariants.{Modimm}
use Rattle.tables.proofs.Cells.{cell16}
use Rattle.homes.proofs.Cells.{first_row, modimm-stands, modimm-home}
use Rattle.names.proofs.Known.{named}
use Rattle.names.proofs.Promises.{numbers_back}
use Rattle.fields.specs.Halfwords.{bit, field, first, second}
use Rattle.fields.specs.Registers.{dnum_of, vec_of}
use Rattle.fields.specs.Promises.{FirstFields, SecondFields}
use Rattle.fields.proofs.Promises.{first_unpacked, second_unpacked, first_packed, second_packed}
use Rattle.floats.specs.Floats.{float_of}
use Rattle.immediates.specs.Modified.{Constant, byte, each_bit, float, undefined, constant_at, element, operand_in, modimm_operand, needs_nonzero}
use Rattle.immediates.proofs.Defined.{is_undefined}
use Rattle.amounts.specs.Shifts.{is_escape}
use Rattle.floats.proofs.Found.{fitting}
use Rattle.floats.proofs.Promises.{float_back}
use Rattle.floats.proofs.Same as Same
use Rattle.readings.specs.Operands.{is_set, insn}
use Rattle.readings.specs.Operands as Read
use Rattle.read_immediates.specs.Modimm.{modimm_of, imm8_of, modimm_reading}
use Rattle.decode.specs.Reading.{reading, in_family}
use Rattle.writings.specs.Forms.{Pair, pair, as_bit, is_quad}
use Rattle.writings.specs.Numbers.{or_nine}
use Rattle.write_immediates.specs.Modimm.{modimm_pair, modimm_form, modimm_writing}
use Rattle.immediate_values.specs.Immediates.{same_value, immediate_reads, immediate_of, immediate_in}
use Rattle.trips.specs.Spelling.{Held, moved_name, canonical, with_mark}
use Rattle.encode.specs.Writing.{writing}
use Rattle.trips.specs.Promises.{ReadsAs}
use Rattle.trips.proofs.Canonical.{spelt, as-spelt}
use Rattle.writings.proofs.Only.{found_at}
use Rattle.writings.proofs.Pairs.{hw1_of, hw2_of}
use Rattle.immediate_values.proofs.Immediates.{op, cmode, imm8, row_of, says, is_float, float-rows, only-number, spelled_back, equal, float_found}
use Rattle.trips.proofs.Registers.{register-back, register-forth, quad-of}
use Rattle.readings.proofs.Parts.{two_operands}
use Rattle.trips.proofs.Routing.{ImmediateBits, to-modimm, set-bit, bit-set, bit-small, number-back, d_of, d-fields}
use Rattle.writings.proofs.Tests.{same_number_lem, number_same}
use Rattle.laws.proofs.Tests.{same_text, chosen, passed}
use Rattle.laws.proofs.Tests.{both_true}

-- the names: none is VORR or VSHLL
other-names : (k : ℕ) → k < 32 → (eqt (cell16 modimm k) "vorr" ≡ false) × (eqt (moved_name (cell16 modimm k)) "" ≡ true)
unfolding values modimm
other-names k h = (
  agree (λ (k : ℕ). eqt (cell16 modimm k) "vorr") (λ (k : ℕ). false) 32 refl k h,
  agree (λ (k : ℕ). eqt (moved_name (cell16 modimm k)) "") (λ (k : ℕ). true) 32 refl k h,
)

-- a reading, by its fields
fields : (hw1 hw2 address o c b d : ℕ) (quad : Bool) → ImmediateBits hw1 hw2 true
    → bit 5 hw2 ≡ o → field 11 8 hw2 ≡ c → imm8_of hw1 hw2 ≡ b → is_set (bit 6 hw2) ≡ quad → dnum_of (bit 6 hw1) (field 15 12 hw2) ≡ d
    → reading hw1 hw2 address ≡ modimm_of o c b quad d address
unfolding reading in_family modimm_reading
fields hw1 hw2 address o c b d quad f eo ec eb eq ed = rw (to-modimm hw1 hw2 f, eb, eo, ec, eq, ed)

-- written, then read

lower-three : (h y : ℕ) → y < 8 → field 5 0 h ≡ y → field 2 0 h ≡ y
lower-three h y l e = omega arith

escaped : (y : ℕ) → y < 8 → is_escape 0 y ≡ true
unfolding is_escape
escaped y h = eq-eqb (y / 8 % 8) 0 (omega arith)

imm8-sum : (t : ℕ) → bit 7 t * 128 + field 6 4 t * 16 + field 3 0 t ≡ field 7 0 t
imm8-sum t = omega (arith, digit t 1 16, digit t 16 8)

-- where the fields of a place stand in a pair
pub record PairFields (hw1 hw2 t : ℕ) (quad : Bool) (d : ℕ) : Type 0 where
  pub first-halfword : hw1 < 65536
  pub second-halfword : hw2 < 65536
  pub bits : ImmediateBits hw1 hw2 true
  pub op-back : bit 5 hw2 ≡ op t
  pub cmode-back : field 11 8 hw2 ≡ cmode t
  pub imm8-back : imm8_of hw1 hw2 ≡ imm8 t
  pub quad-back : is_set (bit 6 hw2) ≡ quad
  pub its-register : dnum_of (bit 6 hw1) (field 15 12 hw2) ≡ d

module _ (t d : ℕ) (quad : Bool) (ht : t < 8192) (hd : d < 32) where
  abbrev h1 : ℕ
  h1 = first (bit 7 t) 1 (bit 4 d) (field 6 4 t)

  abbrev h2 : ℕ
  h2 = second (field 3 0 d) (field 11 8 t) 0 (as_bit quad) (bit 12 t) 1 (field 3 0 t)

  f1 : FirstFields (bit 7 t) 1 (bit 4 d) (field 6 4 t)
  f1 = first_unpacked (bit 7 t) 1 (bit 4 d) (field 6 4 t) (omega arith) (omega arith) (omega arith) (omega arith)

  f2 : SecondFields (field 3 0 d) (field 11 8 t) 0 (as_bit quad) (bit 12 t) 1 (field 3 0 t)
  f2 =
      second_unpacked (field 3 0 d) (field 11 8 t) 0 (as_bit quad) (bit 12 t) 1 (field 3 0 t)
      (omega arith) (omega arith) (omega arith) (bit-small quad) (omega arith) (omega arith) (omega arith)

  its-fields : PairFields h1 h2 t quad d
  its-fields =
      record {
        first-halfword = f1.halfword;
        second-halfword = f2.halfword;
        bits =
            record {
              top = f1.top;
              middle = f1.middle;
              a = f1.a_back;
              b4 = f2.b4-back;
              escapes = rw (f2.b7-back, f1.x-back) (escaped (field 6 4 t) (omega arith));
            };
        op-back = f2.b5-back;
        cmode-back = f2.o-back;
        imm8-back = rw (f1.u-back, lower-three h1 (field 6 4 t) (omega arith) f1.x-back, f2.y-back) (imm8-sum t);
        quad-back = rw f2.b6-back (bit-set quad);
        its-register = rw (f1.d-back, f2.vd-back) (number-back d hd);
      }

  pub pair-fields : (hw1 hw2 : ℕ) → modimm_pair t quad d ≡ pair hw1 hw2 → PairFields hw1 hw2 t quad d
  unfolding modimm_pair
  pair-fields hw1 hw2 e = rw (← ap hw1_of e, ← ap hw2_of e) its-fields

  pub pair_reads : (hw1 hw2 address : ℕ) → modimm_pair t quad d ≡ pair hw1 hw2 → reading hw1 hw2 address ≡ modimm_of (op t) (cmode t) (imm8 t) quad d address
  pair_reads hw1 hw2 address e =
      let f = pair-fields hw1 hw2 e in
      fields hw1 hw2 address (op t) (cmode t) (imm8 t) d quad f.bits f.op-back f.cmode-back f.imm8-back f.quad-back f.its-register

-- an immediate that was found
record Carried (name : String) (value : Operand) (t : ℕ) : Type 0 where
  within : t < 8192
  spelled : cell_at modimm (op t) (cmode t) ≡ name
  zero : both (eqb (imm8 t) 0) (needs_nonzero (cmode t)) ≡ false
  is : modimm_operand (op t) (cmode t) (imm8 t) ≡ value

number_is : (k : Constant) (b : ℕ) (v : ℤ) → same_value (operand_in k b) (Imm v) ≡ true → operand_in k b ≡ Imm v
unfolding operand_in
number_is (byte bits place ones) b v e = ap Imm (same_number_lem (pos (element (byte bits place ones) b)) v e)
number_is each_bit b v e = ap Imm (same_number_lem (twos_complement 64 (element each_bit b)) v e)
number_is float b v e = wrong e
number_is undefined b v e = wrong e

float_is : (k : Constant) (b : ℕ) (x : Ieee.Float) → b < 256 → Ieee.fits Ieee.binary64 x ≡ true → same_value (operand_in k b) (Float x) ≡ true → operand_in k b ≡ Float x
unfolding operand_in
float_is (byte bits place ones) b x h f e = wrong e
float_is each_bit b x h f e = wrong e
float_is float b x h f e = ap Float (Same.only b x h f e)
float_is undefined b x h f e = wrong e

carried : (name : String) (value : Operand) (t : ℕ) → Held value → immediate_in name value ≡ accepted t → Carried name value t
unfolding immediate_in
carried name (Imm v) t held e =
    let q = passed (eqt name "vmov.f32") 8 _ t e in
    let h = hit (λ (u : ℕ). immediate_reads name (Imm v) (op u) (cmode u) (imm8 u)) 8192 t (found_at _ t q.1) in
    let r = says name (Imm v) t h.0 in
    record { within = h.1; spelled = r.spelled; zero = r.zero; is = number_is (constant_at (op t) (cmode t)) (imm8 t) v r.carried }
carried name (Float x) t held e =
    let q = chosen (eqt name "vmov.f32") _ 8 t e in
    let h = hit (λ (u : ℕ). immediate_reads name (Float x) (op u) (cmode u) (imm8 u)) 8192 t (found_at _ t q.1) in
    let r = says name (Float x) t h.0 in
    record {
      within = h.1;
      spelled = r.spelled;
      zero = r.zero;
      is = float_is (constant_at (op t) (cmode t)) (imm8 t) x (omega arith) held r.carried;
    }
carried name (D n) t held e = never (cc)
carried name (Q n) t held e = never (cc)
carried name (S n) t held e = never (cc)
carried name Other t held e = never (cc)
carried name Absent t held e = never (cc)

pub both-fields : (quad : Bool) (x y : Answer ℕ) (p : Pair) → modimm_form quad x y ≡ accepted p
    → (d : ℕ) × (t : ℕ) × (x ≡ accepted d) × (y ≡ accepted t) × (modimm_pair t quad d ≡ p)
both-fields quad (accepted d) (accepted t) p e = (d, t, refl, refl, cc)
both-fields quad (accepted d) (refused n) p e = never (cc)
both-fields quad (refused n) y p e = never (cc)

pub modimm-back : (m k count : ℕ) (a b c : Operand) (number : Bool) (hw1 hw2 address : ℕ) → home_of (name_of m) number ≡ Modimm k
    → (count ≡ 2 → c ≡ Absent) → Held b
    → modimm_writing (name_of m) count a b ≡ accepted (pair hw1 hw2) → ReadsAs C hw1 hw2 address (canonical (spelt m count a b c))
unfolding modimm_writing modimm_of Read.two
modimm-back m k count a b c number hw1 hw2 address home absent held e =
    let u = chosen (eqb count 2) _ 8 (pair hw1 hw2) e in
    let two : count ≡ 2 = eqb-true count 2 u.0 in
    let w = both-fields (is_quad a) _ _ (pair hw1 hw2) u.1 in
    let d = w.0 in
    let t = w.1 in
    let v = carried (name_of m) b t held w.3 in
    let g = register-back (is_quad a) a d w.2 in
    let r = pair_reads t d (is_quad a) v.within g.1 hw1 hw2 address w.4 in
    let p = pair-fields t d (is_quad a) v.within g.1 hw1 hw2 w.4 in
    let st = modimm-stands number m k home in
    let filled = named m st.known in
    let names = other-names k st.within in
    let plain = as-spelt m count a b c (rw (← st.spelled, names.0)) (rw (← st.spelled, names.1)) in
    record {
      first-halfword = p.first-halfword;
      second-halfword = p.second-halfword;
      mark = T1;
      read = rw (r, v.spelled, filled, v.zero, v.is, g.0, numbers_back m st.known, plain, absent two, two);
    }

-- read, then written

undefined-rows : (r : ℕ) → r < 32 → eqt (cell16 modimm r) "" ≡ is_undefined (constant_at (r / 16) (r % 16))
unfolding values modimm constant_at
undefined-rows = agree (λ (r : ℕ). eqt (cell16 modimm r) "") (λ (r : ℕ). is_undefined (constant_at (r / 16) (r % 16))) 32 refl

float-names : (r : ℕ) → r < 32 → eqt (cell16 modimm r) "vmov.f32" ≡ is_float (constant_at (r / 16) (r % 16))
unfolding values modimm constant_at
float-names = agree (λ (r : ℕ). eqt (cell16 modimm r) "vmov.f32") (λ (r : ℕ). is_float (constant_at (r / 16) (r % 16))) 32 refl

-- a place that is read: its name's home, and its value's place
module _ (t : ℕ) (ht : t < 8192) (filled : eqt (cell16 modimm (t / 256)) "" ≡ false)
    (zero : both (eqb (imm8 t) 0) (needs_nonzero (cmode t)) ≡ false) where
  abbrev cell : String
  cell = cell16 modimm (t / 256)

  top : t / 256 / 16 ≡ op t
  top = omega arith

  home : home_of (name_of (number_of cell)) false ≡ Modimm (first_row (t / 256))
  home = modimm-home false (t / 256) (omega arith) filled

  name_back : name_of (number_of cell) ≡ cell
  name_back = rw filled at (spelled_back (t / 256) (omega arith))

  float_test : eqt cell "vmov.f32" ≡ is_float (constant_at (op t) (cmode t))
  float_test = rw (← top) (float-names (t / 256) (omega arith))

  reads-it : (value : Operand) → same_value (modimm_operand (op t) (cmode t) (imm8 t)) value ≡ true
      → immediate_reads (name_of (number_of cell)) value (op t) (cmode t) (imm8 t) ≡ true
  unfolding immediate_reads
  reads-it value e = rw (name_back, row_of t ht, equal cell, zero) e

  number-again : (v : ℤ) → modimm_operand (op t) (cmode t) (imm8 t) ≡ Imm v → immediate_of (name_of (number_of cell)) (Imm v) ≡ accepted t
  number-again v e =
      let m = number_of cell in
      let here : immediate_reads (name_of m) (Imm v) (op t) (cmode t) (imm8 t) ≡ true = reads-it (Imm v) (rw e (number_same v v refl)) in
      ap or_nine
      (only (λ (u : ℕ). immediate_reads (name_of m) (Imm v) (op u) (cmode u) (imm8 u)) 8192 t
      (λ u l q. only-number m (first_row (t / 256)) home v u l q ∙ sym (only-number m (first_row (t / 256)) home v t ht here))
      ht here)

  float-again : constant_at (op t) (cmode t) ≡ float → immediate_of "vmov.f32" (Float (float_of (imm8 t))) ≡ accepted t
  float-again e =
      let row : t / 256 ≡ 15 = eqb-true (t / 256) 15 (sym (float-rows (t / 256) (omega arith)) ∙ rw (top, e)) in
      let same : 0xf00 + imm8 t ≡ t = omega arith in
      sym (float_found (float_of (imm8 t)) (fitting (imm8 t) (omega arith)) (imm8 t) (float_back (imm8 t) (omega arith))) ∙ ap accepted same

  pub place-again : immediate_in (name_of (number_of cell)) (modimm_operand (op t) (cmode t) (imm8 t)) ≡ accepted t
  unfolding immediate_in operand_in
  place-again = go (constant_at (op t) (cmode t)) refl
    where
      go : (k : Constant) → constant_at (op t) (cmode t) ≡ k → immediate_in (name_of (number_of cell)) (operand_in k (imm8 t)) ≡ accepted t
      go (byte bits place ones) e =
          rw (ap (λ (s : String). eqt s "vmov.f32") name_back ∙ float_test, e)
          (number-again (pos (element (byte bits place ones) (imm8 t))) (ap (λ (k : Constant). operand_in k (imm8 t)) e))
      go each_bit e =
          rw (ap (λ (s : String). eqt s "vmov.f32") name_back ∙ float_test, e)
          (number-again (twos_complement 64 (element each_bit (imm8 t))) (ap (λ (k : Constant). operand_in k (imm8 t)) e))
      go float e =
          let name : cell ≡ "vmov.f32" = same_text cell "vmov.f32" (rw e at float_test) in
          rw (name_back, name) (float-again e)
      go undefined e = wrong (sym filled ∙ undefined-rows (t / 256) (omega arith) ∙ rw (top, e))

writes : (m k : ℕ) (mark : Mark) (address : ℕ) (quad : Bool) (d t : ℕ) (a b : Operand) → d < 32 → vec_of quad d ≡ accepted a
    → home_of (name_of m) false ≡ Modimm k → immediate_in (name_of m) b ≡ accepted t
    → writing (insn m mark address 2 a b Absent) ≡ accepted (modimm_pair t quad d)
unfolding writing place_at modimm_writing
writes m k mark address quad d t a b hd ea home eb = rw (home, quad-of quad d a ea, register-forth quad d a hd ea, eb)

-- a place that is read is written as its pair
pub place-written : (t d : ℕ) (quad : Bool) (mark : Mark) (address : ℕ) (a : Operand) → t < 8192 → d < 32 → vec_of quad d ≡ accepted a
    → eqt (cell16 modimm (t / 256)) "" ≡ false → both (eqb (imm8 t) 0) (needs_nonzero (cmode t)) ≡ false
    → writing (insn (number_of (cell16 modimm (t / 256))) mark address 2 a (modimm_operand (op t) (cmode t) (imm8 t)) Absent) ≡ accepted (modimm_pair t quad d)
place-written t d quad mark address a ht hd ea filled zero =
    writes (number_of (cell16 modimm (t / 256))) (first_row (t / 256)) mark address quad d t a (modimm_operand (op t) (cmode t) (imm8 t)) hd ea
    (home t ht filled zero) (place-again t ht filled zero)

written-again : (t d : ℕ) (quad : Bool) (address : ℕ) (i : Insn) (mark : Mark) (other : ℕ) (p : Pair) → t < 8192 → d < 32
    → modimm_pair t quad d ≡ p → modimm_of (op t) (cmode t) (imm8 t) quad d address ≡ accepted i → writing (with_mark i mark other) ≡ accepted p
unfolding modimm_of
written-again t d quad address i mark other p ht hd ep e =
    let p1 = passed (eqt (cell_at modimm (op t) (cmode t)) "") 3 _ i e in
    let p2 = passed (both (eqb (imm8 t) 0) (needs_nonzero (cmode t))) 4 _ i p1.1 in
    let filled : eqt (cell16 modimm (t / 256)) "" ≡ false = rw (row_of t ht) at p1.0 in
    let r = two_operands (number_of (cell16 modimm (t / 256))) T1 address _ _ i (rw (row_of t ht) at p2.1) in
    let value : modimm_operand (op t) (cmode t) (imm8 t) ≡ r.b = cc r.second in
    rw (← r.is, ← value) (place-written t d quad mark other r.a ht hd r.first filled p2.0 ∙ ap accepted ep)

-- a place, from its fields
abbrev joined : ℕ → ℕ → ℕ → ℕ → ℕ → ℕ
joined o c i x y = o * 4096 + c * 256 + (i * 128 + x * 16 + y)

record JoinedFields (o c i x y : ℕ) : Type 0 where
  small : joined o c i x y < 8192
  op-back : op (joined o c i x y) ≡ o
  cmode-back : cmode (joined o c i x y) ≡ c
  imm8-back : imm8 (joined o c i x y) ≡ i * 128 + x * 16 + y
  i-back : bit 7 (joined o c i x y) ≡ i
  x-back : field 6 4 (joined o c i x y) ≡ x
  y-back : field 3 0 (joined o c i x y) ≡ y

joined-fields : (o c i x y : ℕ) → o < 2 → c < 16 → i < 2 → x < 8 → y < 16 → JoinedFields o c i x y
joined-fields o c i x y ho hc hi hx hy =
    record {
      small = omega arith;
      op-back = omega arith;
      cmode-back = omega arith;
      imm8-back = omega arith;
      i-back = omega arith;
      x-back = omega arith;
      y-back = omega arith;
    }

module _ (hw1 hw2 : ℕ) (l1 : hw1 < 65536) (l2 : hw2 < 65536) (f : ImmediateBits hw1 hw2 true) where
  abbrev t : ℕ
  t = joined (bit 5 hw2) (field 11 8 hw2) (bit 12 hw1) (field 2 0 hw1) (field 3 0 hw2)

  k : JoinedFields (bit 5 hw2) (field 11 8 hw2) (bit 12 hw1) (field 2 0 hw1) (field 3 0 hw2)
  k =
      joined-fields (bit 5 hw2) (field 11 8 hw2) (bit 12 hw1) (field 2 0 hw1) (field 3 0 hw2)
      (omega arith) (omega arith) (omega arith) (omega arith) (omega arith)

  -- L and the upper three bits of imm6 are zero
  clear : (bit 7 hw2 ≡ 0) × (field 5 0 hw1 ≡ field 2 0 hw1)
  unfolding is_escape
  clear =
      let e = both_true (eqb (bit 7 hw2) 0) (eqb (field 5 3 (field 5 0 hw1)) 0) f.escapes in
      let z = eqb-true (field 5 3 (field 5 0 hw1)) 0 e.1 in
      (eqb-true (bit 7 hw2) 0 e.0, omega arith)

  pub packs : modimm_pair t (is_set (bit 6 hw2)) (d_of hw1 hw2) ≡ pair hw1 hw2
  unfolding modimm_pair
  packs =
      rw (
        k.i-back,
        k.x-back,
        k.y-back,
        k.op-back,
        k.cmode-back,
        (d-fields hw1 hw2).hi-back,
        (d-fields hw1 hw2).lo_back,
        set-bit (bit 6 hw2) (omega arith),
        ← clear.1,
      )
      (λ i. pair (rw f.a at (first_packed hw1 l1 f.top f.middle) i) (rw (clear.0, f.b4) at (second_packed hw2 l2) i))

  pub modimm-forth : (address : ℕ) (i : Insn) (mark : Mark) (other : ℕ) → modimm_reading hw1 hw2 address ≡ accepted i
      → writing (with_mark i mark other) ≡ accepted (pair hw1 hw2)
  unfolding modimm_reading
  modimm-forth address i mark other e =
      written-again t (d_of hw1 hw2) (is_set (bit 6 hw2)) address i mark other (pair hw1 hw2) k.small (d-fields hw1 hw2).small packs
      (rw (k.op-back, k.cmode-back, k.imm8-back) e)
