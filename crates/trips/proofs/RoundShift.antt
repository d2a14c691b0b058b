-- Two registers and a shift amount: written, then read.
-- Assumes nothing.
use mathlib.Core.Path.{◌≡◌, refl, sym, ap, ◌∙◌}
use mathlib.Core.Bool.{Bool, true, false, not}
use Prim.Native.Nat.{ℕ, ◌%◌, ◌<◌}
use Prim.Native.String.{String}
use native.Mathlib.Omega.{arith}
use lib.Dec.{eqb}
use lib.IntN.{ℤ, pos}
use lib.ListN.{get_or}
use lib.Text.{eqt}
use borrow.Author.Tests.{eqb-true}
use Rattle.laws.specs.Answer.{accepted}
use Rattle.laws.specs.Choice.{choose, both}
use Rattle.laws.proofs.Range.{values, agree}
use Rattle.insn.specs.declared.Edition.TheVariants.{C}
use Rattle.insn.specs.declared.Mark.TheVariants.{T1}
use Rattle.insn.specs.declared.Operand.{Operand}
use Rattle.insn.specs.declared.Operand.TheVariants.{D, Q, S, Imm, Float, Other, Absent}
use Rattle.tables.specs.Cells.{cell_at}
use Rattle.names.specs.Names.{name_of, number_of}
use Rattle.homes.specs.Home.{home_of}
use Rattle.immediate_tables.specs.Shift.{shift_rows, shift_cells, shift_classes, vmovl}
use Rattle.tables.specs.declared.ShiftClass.{ShiftClass}
use Rattle.tables.specs.declared.ShiftClass.TheVariants.{Right, Long}
use Rattle.homes.specs.declared.Home.TheVariants.{Shift, Vmovl}
use Rattle.tables.proofs.Cells.{cell4}
use Rattle.homes.proofs.Cells.{Stands, filled, class_at, shift-stands, vmovl-stands}
use Rattle.names.proofs.Promises.{numbers_back}
use Rattle.laws.proofs.Search.{hit}
use Rattle.laws.proofs.Never.{never}
use Rattle.fields.specs.Halfwords.{bit, field, first, second}
use Rattle.fields.specs.Registers.{vec_of}
use Rattle.fields.specs.Promises.{FirstFields, SecondFields}
use Rattle.fields.proofs.Promises.{first_unpacked, second_unpacked}
use Rattle.amounts.specs.Shifts.{is_escape, amount_of}
use Rattle.readings.specs.Operands.{is_set, insn}
use Rattle.readings.specs.Operands as Read
use Rattle.read_immediates.specs.Shift.{shifted, shift_of}
use Rattle.decode.specs.Reading.{reading}
use Rattle.writings.specs.Forms.{pair, is_quad, register_in, Three, all_three, numbers}
use Rattle.write_immediates.specs.Shift.{shift_pair, bit_b, shift_form, shift_classed, shift_writing, vshll_cell, vmovl_writing}
use Rattle.amount_values.specs.Amounts.{amount_reads, amount_in}
use Rattle.trips.specs.Spelling.{same_register, is_zero, moved_name, canonical}
use Rattle.trips.specs.Promises.{ReadsAs}
use Rattle.amount_values.proofs.Amounts.{Reads, says}
use Rattle.trips.proofs.Canonical.{spelt, as-spelt, as-vmovl}
use Rattle.writings.proofs.Only.{found_at}
use Rattle.writings.proofs.Pairs.{hw1_of, hw2_of}
use Rattle.trips.proofs.Registers.{threefold, then, register-back}
use Rattle.trips.proofs.Routing.{number-back}
use Rattle.laws.proofs.Tests.{both-no, chosen}
use Rattle.trips.proofs.ShiftRows.{is_long, row_with, same-cell, same_class, no-vorr, moved-name, moved-filled, length-d, length-m, b-small, by-class, by_zero, fields}
use Rattle.tables.specs.Lengths.{class_lengths}

module _ (k b t d m : ℕ) (hb : b < 2) (ht : t < 128) (hd : d < 32) (hm : m < 32) (sized : is_escape (bit 6 t) (field 5 0 t) ≡ false) where
  abbrev h1 : ℕ
  h1 = first (bit 7 k) 1 (bit 4 d) (field 5 0 t)

  abbrev h2 : ℕ
  h2 = second (field 3 0 d) (field 6 3 k) (bit 6 t) b (bit 4 m) 1 (field 3 0 m)

  f1 : FirstFields (bit 7 k) 1 (bit 4 d) (field 5 0 t)
  f1 = first_unpacked (bit 7 k) 1 (bit 4 d) (field 5 0 t) (omega arith) (omega arith) (omega arith) (omega arith)

  f2 : SecondFields (field 3 0 d) (field 6 3 k) (bit 6 t) b (bit 4 m) 1 (field 3 0 m)
  f2 =
      second_unpacked (field 3 0 d) (field 6 3 k) (bit 6 t) b (bit 4 m) 1 (field 3 0 m)
      (omega arith) (omega arith) (omega arith) hb (omega arith) (omega arith) (omega arith)

  reads : (address : ℕ) → reading h1 h2 address
      ≡ shift_of (get_or shift_classes (row_with k b) Right) (bit 7 k) (row_with k b) (is_set b) (bit 6 t) (field 5 0 t) d m address
  reads address =
      fields h1 h2 address (bit 7 k) (row_with k b) (bit 6 t) (field 5 0 t) d m (is_set b)
      (record { top = f1.top; middle = f1.middle; a = f1.a_back; b4 = f2.b4-back; escapes = rw (f2.b7-back, f1.x-back) sized })
      (rw (f1.u-back, f2.o-back, f2.b6-back))
      f1.u-back
      (ap is_set f2.b6-back)
      f2.b7-back
      f1.x-back
      (rw (f1.d-back, f2.vd-back) (number-back d hd))
      (rw (f2.b5-back, f2.y-back) (number-back m hm))

  pair_reads : (hw1 hw2 address : ℕ) → shift_pair k b t d m ≡ pair hw1 hw2
      → (reading hw1 hw2 address ≡ shift_of (get_or shift_classes (row_with k b) Right) (bit 7 k) (row_with k b) (is_set b) (bit 6 t) (field 5 0 t) d m address)
      × (hw1 < 65536) × (hw2 < 65536)
  unfolding shift_pair
  pair_reads hw1 hw2 address e = rw (← ap hw1_of e, ← ap hw2_of e) (reads address, f1.halfword, f2.halfword)

record Carried (class : ShiftClass) (column : ℕ) (c : Operand) (t : ℕ) : Type 0 where
  v : ℤ
  is : c ≡ Imm v
  reads_so : Reads class column v t
  within : t < 128

carried : (class : ShiftClass) (column : ℕ) (c : Operand) (t : ℕ) → amount_in class column c ≡ accepted t → Carried class column c t
unfolding amount_in
carried class column (Imm v) t e =
    let h = hit (λ (u : ℕ). amount_reads class column v (bit 6 u) (field 5 0 u)) 128 t (found_at _ t e) in
    record { v = v; is = refl; reads_so = says class column v t h.0; within = h.1 }
carried class column (D n) t e = never (cc)
carried class column (Q n) t e = never (cc)
carried class column (S n) t e = never (cc)
carried class column (Float x) t e = never (cc)
carried class column Other t e = never (cc)
carried class column Absent t e = never (cc)

record Written (class : ShiftClass) (k : ℕ) (quad : Bool) (count : ℕ) (a b c : Operand) (hw1 hw2 : ℕ) : Type 0 where
  counted : count ≡ 3
  x : ℕ
  y : ℕ
  t : ℕ
  first-is : (vec_of (class_lengths class quad).d x ≡ accepted a) × (x < 32)
  second_is : (vec_of (class_lengths class quad).m y ≡ accepted b) × (y < 32)
  third-is : Carried class (field 1 0 k) c t
  packed : shift_pair k (bit_b class quad k) t x y ≡ pair hw1 hw2

written : (class : ShiftClass) (k count : ℕ) (a b c : Operand) (hw1 hw2 : ℕ)
    → shift_classed class k count a b c ≡ accepted (pair hw1 hw2) → Written class k (is_quad a) count a b c hw1 hw2
unfolding shift_classed
written class k count a b c hw1 hw2 e =
    let u = chosen (eqb count 3) _ 8 (pair hw1 hw2) e in
    let r = then _ (shift_form class k (is_quad a)) (pair hw1 hw2) u.1 in
    go r.0 (eqb-true count 3 u.0) r.1 r.2
  where
    go : (r : Three) → count ≡ 3
        → all_three (register_in (class_lengths class (is_quad a)).d a) (register_in (class_lengths class (is_quad a)).m b) (amount_in class (field 1 0 k) c) ≡ accepted r
        → shift_form class k (is_quad a) r ≡ accepted (pair hw1 hw2) → Written class k (is_quad a) count a b c hw1 hw2
    go (numbers x y t) n r f =
        let r3 = threefold _ _ _ x y t r in
        record {
          counted = n;
          x = x;
          y = y;
          t = t;
          first-is = register-back (class_lengths class (is_quad a)).d a x r3.first;
          second_is = register-back (class_lengths class (is_quad a)).m b y r3.second;
          third-is = carried class (field 1 0 k) c t r3.third;
          packed = cc (f);
        }

pub column-of : (k : ℕ) → field 1 0 k ≡ k % 4
column-of k = omega arith

-- what a pair that was written in a cell that is not blank is read as
module _ (k count : ℕ) (a b c : Operand) (hw1 hw2 address : ℕ) (hk : k < 256) (filled : eqt (cell4 shift_cells k) "" ≡ false)
    (w : Written (class_at k) k (is_quad a) count a b c hw1 hw2) where
  abbrev class : ShiftClass
  class = class_at k

  abbrev n : ℕ
  n = amount_of class (bit 6 w.t) (field 5 0 w.t)

  abbrev moved : String
  moved = cell_at vmovl (bit 7 k) (k % 4)

  amount-is : c ≡ Imm (pos n)
  amount-is = w.third-is.is ∙ ap Imm (sym w.third-is.reads_so.its-amount)

  is_read : (reading hw1 hw2 address
      ≡ shifted class (number_of (cell4 shift_cells k)) (number_of moved) (is_set (bit_b class (is_quad a) k)) n w.x w.y address)
      × (hw1 < 65536) × (hw2 < 65536)
  unfolding shift_of
  is_read =
      let s = w.third-is.reads_so in
      let r = pair_reads k (bit_b class (is_quad a) k) w.t w.x w.y (b-small class (is_quad a) k) w.third-is.within w.first-is.1 w.second_is.1 s.sized hw1 hw2 address w.packed in (
        rw (r.0, same_class (is_quad a) k hk filled, s.allowed, s.its-column, column-of k, same-cell (is_quad a) k hk filled, filled),
        r.1,
        r.2,
      )

  as-three : both (is_long class) (eqb n 0) ≡ false
      → reading hw1 hw2 address ≡ accepted (insn (number_of (cell4 shift_cells k)) T1 address 3 a b c)
  unfolding Read.three
  as-three e =
      rw (
        is_read.0,
        by-class class (number_of (cell4 shift_cells k)) (number_of moved) (is_set (bit_b class (is_quad a) k)) n w.x w.y address e,
        length-d class (is_quad a) k,
        length-m class (is_quad a) k,
        w.first-is.0,
        w.second_is.0,
        amount-is,
      )

  as-two : both (is_long class) (eqb n 0) ≡ true → reading hw1 hw2 address ≡ accepted (insn (number_of moved) T1 address 2 a b Absent)
  unfolding Read.two
  as-two e =
      rw (
        is_read.0,
        by_zero class (number_of (cell4 shift_cells k)) (number_of moved) (is_set (bit_b class (is_quad a) k)) n w.x w.y address e,
        length-d class (is_quad a) k,
        length-m class (is_quad a) k,
        w.first-is.0,
        w.second_is.0,
      )

pub shift_back : (m k count : ℕ) (a b c : Operand) (number : Bool) (hw1 hw2 address : ℕ) → home_of (name_of m) number ≡ Shift k
    → shift_writing k count a b c ≡ accepted (pair hw1 hw2) → ReadsAs C hw1 hw2 address (canonical (spelt m count a b c))
shift_back m k count a b c number hw1 hw2 address home e =
    go (is_long (class_at k)) (eqb (n k count a b c hw1 hw2 address st.within (filled st) w) 0) refl refl
  where
    w : Written (class_at k) k (is_quad a) count a b c hw1 hw2
    w = written (class_at k) k count a b c hw1 hw2 e

    st : Stands m k 256 (cell4 shift_cells)
    st = shift-stands number m k home

    vorr : both (eqt (name_of m) "vorr") (same_register b c) ≡ false
    vorr = rw (rw st.spelled at (no-vorr k st.within))

    its-number : number_of (cell4 shift_cells k) ≡ m
    its-number = ap number_of st.spelled ∙ numbers_back m st.known

    name-is : moved_name (name_of m) ≡ choose (is_long (class_at k)) (cell_at vmovl (bit 7 k) (k % 4)) ""
    name-is = rw st.spelled at (moved-name k st.within)

    zero_is : is_zero c ≡ eqb (n k count a b c hw1 hw2 address st.within (filled st) w) 0
    zero_is = ap is_zero (amount-is k count a b c hw1 hw2 address st.within (filled st) w)

    as-it-is : both (is_long (class_at k)) (eqb (n k count a b c hw1 hw2 address st.within (filled st) w) 0) ≡ false
        → both (not (eqt (moved_name (name_of m)) "")) (is_zero c) ≡ false → ReadsAs C hw1 hw2 address (canonical (spelt m count a b c))
    as-it-is z q =
        record {
          first-halfword = (is_read k count a b c hw1 hw2 address st.within (filled st) w).1;
          second-halfword = (is_read k count a b c hw1 hw2 address st.within (filled st) w).2;
          mark = T1;
          read = rw (as-three k count a b c hw1 hw2 address st.within (filled st) w z, its-number, as-spelt m count a b c vorr q, w.counted);
        }

    go : (l z : Bool) → is_long (class_at k) ≡ l → eqb (n k count a b c hw1 hw2 address st.within (filled st) w) 0 ≡ z
        → ReadsAs C hw1 hw2 address (canonical (spelt m count a b c))
    go false z el ez = as-it-is (rw el) (rw (name-is, el))
    go true false el ez = as-it-is (rw (el, ez)) (rw (zero_is, ez) (both-no (not (eqt (moved_name (name_of m)) ""))))
    go true true el ez =
        let name : moved_name (name_of m) ≡ cell_at vmovl (bit 7 k) (k % 4) = rw el at name-is in
        record {
          first-halfword = (is_read k count a b c hw1 hw2 address st.within (filled st) w).1;
          second-halfword = (is_read k count a b c hw1 hw2 address st.within (filled st) w).2;
          mark = T1;
          read =
              rw (
                as-two k count a b c hw1 hw2 address st.within (filled st) w (rw (el, ez)),
                as-vmovl m count a b c w.counted vorr (rw (name, moved-filled k st.within (filled st) el, zero_is, ez)),
                name,
              );
        }

-- VMOVL's cells, and VSHLL's
vshll-class : (k : ℕ) → k < 8 → class_at (vshll_cell k) ≡ Long
unfolding values shift_rows shift_classes
vshll-class = agree (λ (k : ℕ). class_at (vshll_cell k)) (λ (k : ℕ). Long) 8 refl

vshll-filled : (k : ℕ) → k < 8 → eqt (cell4 vmovl k) "" ≡ eqt (cell4 shift_cells (vshll_cell k)) ""
unfolding values shift_rows shift_cells vmovl
vshll-filled = agree (λ (k : ℕ). eqt (cell4 vmovl k) "") (λ (k : ℕ). eqt (cell4 shift_cells (vshll_cell k)) "") 8 refl

vshll-moved : (k : ℕ) → k < 8 → cell_at vmovl (bit 7 (vshll_cell k)) (vshll_cell k % 4) ≡ cell4 vmovl k
unfolding values vmovl
vshll-moved = agree (λ (k : ℕ). cell_at vmovl (bit 7 (vshll_cell k)) (vshll_cell k % 4)) (cell4 vmovl) 8 refl

vshll-small : (k : ℕ) → k < 8 → vshll_cell k < 256
vshll-small k h = omega arith

vmovl-names : (k : ℕ) → k < 8 → (eqt (cell4 vmovl k) "vorr" ≡ false) × (eqt (moved_name (cell4 vmovl k)) "" ≡ true)
unfolding values vmovl
vmovl-names k h = (
  agree (λ (k : ℕ). eqt (cell4 vmovl k) "vorr") (λ (k : ℕ). false) 8 refl k h,
  agree (λ (k : ℕ). eqt (moved_name (cell4 vmovl k)) "") (λ (k : ℕ). true) 8 refl k h,
)

pub vmovl-back : (m k count : ℕ) (a b c : Operand) (number : Bool) (hw1 hw2 address : ℕ) → home_of (name_of m) number ≡ Vmovl k → (count ≡ 2 → c ≡ Absent)
    → vmovl_writing k count a b ≡ accepted (pair hw1 hw2) → ReadsAs C hw1 hw2 address (canonical (spelt m count a b c))
unfolding vmovl_writing
vmovl-back m k count a b c number hw1 hw2 address home absent e =
    let u = chosen (eqb count 2) _ 8 (pair hw1 hw2) e in
    let two : count ≡ 2 = eqb-true count 2 u.0 in
    let st = vmovl-stands number m k home in
    let j = vshll_cell k in
    let hj = vshll-small k st.within in
    let full : eqt (cell4 shift_cells j) "" ≡ false = sym (vshll-filled k st.within) ∙ filled st in
    let w = written (class_at j) j 3 a b (Imm (pos 0)) hw1 hw2 u.1 in
    let zero : n j 3 a b (Imm (pos 0)) hw1 hw2 address hj full w ≡ 0 = cc (amount-is j 3 a b (Imm (pos 0)) hw1 hw2 address hj full w) in
    let names = vmovl-names k st.within in
    let mnemonic : number_of (cell4 vmovl k) ≡ m = ap number_of st.spelled ∙ numbers_back m st.known in
    let plain = as-spelt m count a b c (rw (← st.spelled, names.0)) (rw (← st.spelled, names.1)) in
    record {
      first-halfword = (is_read j 3 a b (Imm (pos 0)) hw1 hw2 address hj full w).1;
      second-halfword = (is_read j 3 a b (Imm (pos 0)) hw1 hw2 address hj full w).2;
      mark = T1;
      read =
          rw (
            as-two j 3 a b (Imm (pos 0)) hw1 hw2 address hj full w (rw (zero, vshll-class k st.within)),
            vshll-moved k st.within,
            mnemonic,
            plain,
            absent two,
            two,
          );
    }
