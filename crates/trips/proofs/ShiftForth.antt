-- Two registers and a shift amount: read, then written.
-- Assumes nothing.
use mathlib.Core.Path.{◌≡◌, refl, sym, ap, ◌∙◌}
use mathlib.Core.Bool.{Bool, true, false}
use Prim.Native.Nat.{ℕ, ◌+◌, ◌*◌, ◌/◌, ◌%◌, ◌<◌}
use native.Mathlib.Omega.{arith}
use lib.Dec.{eqb}
use lib.IntN.{ℤ, pos}
use lib.ListN.{get_or}
use lib.Text.{eqt}
use borrow.Author.Tests.{eq-eqb, eqb-true}
use Rattle.laws.specs.Answer.{accepted}
use Rattle.laws.specs.Choice.{choose, both}
use Rattle.laws.proofs.Range.{values, agree}
use Rattle.insn.specs.declared.Insn.{Insn}
use Rattle.insn.specs.declared.Mark.{Mark}
use Rattle.insn.specs.declared.Mark.TheVariants.{T1}
use Rattle.insn.specs.declared.Operand.{Operand}
use Rattle.insn.specs.declared.Operand.TheVariants.{Imm, Absent}
use Rattle.insn.specs.Record.{place_at}
use Rattle.tables.specs.Cells.{cell_at}
use Rattle.names.specs.Names.{name_of, number_of}
use Rattle.homes.specs.Home.{home_of}
use Rattle.immediate_tables.specs.Shift.{shift_rows, shift_cells, shift_classes, vmovl}
use Rattle.tables.specs.declared.ShiftClass.{ShiftClass}
use Rattle.tables.specs.declared.ShiftClass.TheVariants.{Right, Left, Narrow, Long, Convert}
use Rattle.homes.specs.declared.Home.TheVariants.{Shift, Vmovl}
use Rattle.tables.proofs.Cells.{cell4}
use Rattle.homes.proofs.Cells.{class_at, first_cell, first-class, shift-home, vmovl-home}
use Rattle.laws.proofs.Search.{only}
use Rattle.laws.proofs.Never.{never}
use Rattle.fields.specs.Halfwords.{bit, field}
use Rattle.fields.specs.Registers.{vec_of}
use Rattle.fields.proofs.Promises.{first_packed, second_packed}
use Rattle.amounts.specs.Shifts.{is_escape, amount_of}
use Rattle.amounts.proofs.Shifts.{code_lt}
use Rattle.readings.specs.Operands.{is_set, insn}
use Rattle.read_immediates.specs.Shift.{forbidden, column_of, amount, shifted, shift_of, shift_reading}
use Rattle.writings.specs.Forms.{Pair, pair, cell_of, is_quad, all_three}
use Rattle.writings.specs.Numbers.{or_nine}
use Rattle.write_immediates.specs.Shift.{shift_pair, bit_b, shift_classed, shift_writing, vshll_cell, vmovl_writing}
use Rattle.amount_values.specs.Amounts.{amount_reads, amount_in}
use Rattle.trips.specs.Spelling.{with_mark}
use Rattle.encode.specs.Writing.{writing}
use Rattle.amount_values.proofs.Amounts.{only-place}
use Rattle.trips.proofs.Registers.{register-forth, quad-of}
use Rattle.readings.proofs.Parts.{operands, two_operands}
use Rattle.trips.proofs.Routing.{ImmediateBits, set-bit, d_of, m_of, d-fields, m-fields, CellFields, cell-fields}
use Rattle.laws.proofs.Tests.{both_true, passed}
use Rattle.trips.proofs.ShiftRows.{is_long, moved-filled, by-class, by_zero}
use Rattle.tables.specs.Lengths.{class_lengths}

-- the place of an amount that was read
module _ (class : ShiftClass) (t : ℕ) (ht : t < 128) (allowed : forbidden class (bit 6 t) (field 5 0 t) ≡ false) (sized : is_escape (bit 6 t) (field 5 0 t) ≡ false) where
  abbrev its-column : ℕ
  its-column = column_of class (bit 6 t) (field 5 0 t)

  abbrev its-amount : ℕ
  its-amount = amount_of class (bit 6 t) (field 5 0 t)

  reads-it : amount_reads class its-column (pos its-amount) (bit 6 t) (field 5 0 t) ≡ true
  unfolding amount_reads
  reads-it = rw (allowed, sized, eq-eqb its-column its-column refl, eq-eqb its-amount its-amount refl)

  amount-again : amount_in class its-column (Imm (pos its-amount)) ≡ accepted t
  unfolding amount_in
  amount-again =
      ap or_nine
      (only (λ (u : ℕ). amount_reads class its-column (pos its-amount) (bit 6 u) (field 5 0 u)) 128 t
      (λ u l e. only-place class its-column its-amount u l e ∙ sym (only-place class its-column its-amount t ht reads-it))
      ht reads-it)

-- a record of a row
classed-writes : (class : ShiftClass) (j : ℕ) (x y t : ℕ) (a b c : Operand) → x < 32 → y < 32
    → vec_of (class_lengths class (is_quad a)).d x ≡ accepted a → vec_of (class_lengths class (is_quad a)).m y ≡ accepted b → amount_in class (field 1 0 j) c ≡ accepted t
    → shift_classed class j 3 a b c ≡ accepted (shift_pair j (bit_b class (is_quad a) j) t x y)
unfolding shift_classed all_three
classed-writes class j x y t a b c hx hy ea eb ec =
    rw (register-forth (class_lengths class (is_quad a)).d x a hx ea, register-forth (class_lengths class (is_quad a)).m y b hy eb, ec)

writes : (m j : ℕ) (mark : Mark) (address : ℕ) (v : ℤ) (a b : Operand) → home_of (name_of m) true ≡ Shift j
    → writing (insn m mark address 3 a b (Imm v)) ≡ shift_writing j 3 a b (Imm v)
unfolding writing place_at
writes m j mark address v a b home = rw home

writes-vmovl : (m j : ℕ) (mark : Mark) (address : ℕ) (a b : Operand) → home_of (name_of m) false ≡ Vmovl j
    → writing (insn m mark address 2 a b Absent) ≡ shift_writing (vshll_cell j) 3 a b (Imm (pos 0))
unfolding writing place_at vmovl_writing
writes-vmovl m j mark address a b home = rw home

-- the lengths, from the length of the first register
again-d : (class : ShiftClass) (quad : Bool) → (class_lengths class (class_lengths class quad).d).d ≡ (class_lengths class quad).d
again-d Right quad = refl
again-d Left quad = refl
again-d Narrow quad = refl
again-d Long quad = refl
again-d Convert quad = refl

again-m : (class : ShiftClass) (quad : Bool) → (class_lengths class (class_lengths class quad).d).m ≡ (class_lengths class quad).m
again-m Right quad = refl
again-m Left quad = refl
again-m Narrow quad = refl
again-m Long quad = refl
again-m Convert quad = refl

-- the first cell of a name, and the bit at B
module _ (k q : ℕ) (eq : bit 2 k ≡ q) (hq : q < 2) where
  b-again : (class : ShiftClass) → bit_b class (class_lengths class (is_set q)).d (first_cell class k) ≡ q
  b-again Right = set-bit q hq
  b-again Left = set-bit q hq
  b-again Narrow = eq
  b-again Long = eq
  b-again Convert = set-bit q hq

first-u : (k : ℕ) → k < 256 → bit 7 (k / 8 * 8 + k % 4) ≡ bit 7 k
unfolding values
first-u = agree (λ (k : ℕ). bit 7 (k / 8 * 8 + k % 4)) (bit 7) 256 refl

first-o : (k : ℕ) → field 6 3 (k / 8 * 8 + k % 4) ≡ field 6 3 k
first-o k = omega arith

first-pair : (class : ShiftClass) (k b t d m : ℕ) → k < 256 → shift_pair (first_cell class k) b t d m ≡ shift_pair k b t d m
unfolding shift_pair
first-pair Right k b t d m h = rw (first-u k h, first-o k)
first-pair Left k b t d m h = rw (first-u k h, first-o k)
first-pair Narrow k b t d m h = refl
first-pair Long k b t d m h = refl
first-pair Convert k b t d m h = rw (first-u k h, first-o k)

first-column : (class : ShiftClass) (k : ℕ) → field 1 0 (first_cell class k) ≡ k % 4
first-column Right k = omega arith
first-column Left k = omega arith
first-column Narrow k = omega arith
first-column Long k = omega arith
first-column Convert k = omega arith

long-cell : (k : ℕ) → k < 256 → is_long (class_at k) ≡ true → vshll_cell (bit 7 k * 4 + k % 4) ≡ k
unfolding values shift_rows shift_classes
long-cell k h e = rw e at (agree (λ (k : ℕ). choose (is_long (class_at k)) (vshll_cell (bit 7 k * 4 + k % 4)) k) (λ (k : ℕ). k) 256 refl k h)

long-first : (class : ShiftClass) (k : ℕ) → is_long class ≡ true → first_cell class k ≡ k
long-first Right k e = never (cc)
long-first Left k e = never (cc)
long-first Narrow k e = never (cc)
long-first Long k e = refl
long-first Convert k e = never (cc)

moved_row : (k : ℕ) → (bit 7 k * 4 + k % 4) / 4 ≡ bit 7 k
moved_row k = omega arith

moved-column : (k : ℕ) → (bit 7 k * 4 + k % 4) % 4 ≡ k % 4
moved-column k = omega arith

-- a cell's reading, written
module _ (k q t d m address : ℕ) (i : Insn) (mark : Mark) (other : ℕ) (p : Pair) (hk : k < 256) (eq : bit 2 k ≡ q) (hq : q < 2) (ht : t < 128)
    (hd : d < 32) (hm : m < 32) (column : column_of (class_at k) (bit 6 t) (field 5 0 t) ≡ k % 4)
    (sized : is_escape (bit 6 t) (field 5 0 t) ≡ false) (packs : shift_pair k q t d m ≡ p) where
  abbrev cls : ShiftClass
  cls = class_at k

  abbrev its_first_cell : ℕ
  its_first_cell = first_cell cls k

  abbrev its : ℕ
  its = amount_of cls (bit 6 t) (field 5 0 t)

  module _ (allowed : forbidden cls (bit 6 t) (field 5 0 t) ≡ false) (filled : eqt (cell4 shift_cells k) "" ≡ false) (a b : Operand)
      (ea : vec_of (class_lengths cls (is_set q)).d d ≡ accepted a) (eb : vec_of (class_lengths cls (is_set q)).m m ≡ accepted b) where
    quad_is : is_quad a ≡ (class_lengths cls (is_set q)).d
    quad_is = quad-of (class_lengths cls (is_set q)).d d a ea

    place_is : amount_in cls (field 1 0 its_first_cell) (Imm (pos its)) ≡ accepted t
    place_is = rw (first-column cls k, ← column) (amount-again cls t ht allowed sized)

    row-writes : shift_writing its_first_cell 3 a b (Imm (pos its)) ≡ accepted p
    row-writes =
        rw (first-class k hk filled)
        (classed-writes cls its_first_cell d m t a b (Imm (pos its)) hd hm
        (rw (quad_is, again-d cls (is_set q)) ea)
        (rw (quad_is, again-m cls (is_set q)) eb)
        place_is
        ∙ ap accepted (rw (quad_is, b-again k q eq hq cls) (first-pair cls k q t d m hk ∙ packs)))

    moved-writes : is_long cls ≡ true → its ≡ 0 → shift_writing k 3 a b (Imm (pos 0)) ≡ accepted p
    moved-writes l z = rw (long-first cls k l, z) at row-writes

  written-again : shift_of cls (bit 7 k) (k / 4) (is_set q) (bit 6 t) (field 5 0 t) d m address ≡ accepted i → writing (with_mark i mark other) ≡ accepted p
  unfolding shift_of
  written-again e =
      let p1 = passed (forbidden cls (bit 6 t) (field 5 0 t)) 2 _ i e in
      let p2 = passed (eqt (cell_at shift_cells (k / 4) (column_of cls (bit 6 t) (field 5 0 t))) "") 3 _ i p1.1 in
      go (both (is_long cls) (eqb its 0)) refl p1.0 (rw column at p2.0) (rw column at p2.1)
    where
      go : (z : Bool) → both (is_long cls) (eqb its 0) ≡ z → forbidden cls (bit 6 t) (field 5 0 t) ≡ false → eqt (cell4 shift_cells k) "" ≡ false
          → shifted cls (number_of (cell4 shift_cells k)) (number_of (cell_at vmovl (bit 7 k) (k % 4))) (is_set q) its d m address ≡ accepted i
          → writing (with_mark i mark other) ≡ accepted p
      go false ez allowed filled e =
          let r =
          operands (number_of (cell4 shift_cells k)) T1 address (vec_of (class_lengths cls (is_set q)).d d) (vec_of (class_lengths cls (is_set q)).m m) (amount its) i
          (sym (by-class cls (number_of (cell4 shift_cells k)) (number_of (cell_at vmovl (bit 7 k) (k % 4))) (is_set q) its d m address ez) ∙ e) in
          let third : r.c ≡ Imm (pos its) = cc r.third in
          rw (← r.is, third)
          (writes (number_of (cell4 shift_cells k)) its_first_cell mark other (pos its) r.a r.b (shift-home k hk filled)
          ∙ row-writes allowed filled r.a r.b r.first r.second)
      go true ez allowed filled e =
          let r =
          two_operands (number_of (cell_at vmovl (bit 7 k) (k % 4))) T1 address (vec_of (class_lengths cls (is_set q)).d d) (vec_of (class_lengths cls (is_set q)).m m) i
          (sym (by_zero cls (number_of (cell4 shift_cells k)) (number_of (cell_at vmovl (bit 7 k) (k % 4))) (is_set q) its d m address ez) ∙ e) in
          let is = both_true (is_long cls) (eqb its 0) ez in
          let j = bit 7 k * 4 + k % 4 in
          let cell : cell4 vmovl j ≡ cell_at vmovl (bit 7 k) (k % 4) = rw (moved_row k, moved-column k) in
          let home = rw cell at (vmovl-home j (omega arith) (rw cell (moved-filled k hk filled is.0))) in
          let none : its ≡ 0 = eqb-true its 0 is.1 in
          rw (← r.is)
          (writes-vmovl (number_of (cell_at vmovl (bit 7 k) (k % 4))) j mark other r.a r.b home
          ∙ rw (long-cell k hk is.0) (moved-writes allowed filled r.a r.b r.first r.second is.0 none))

column-small : (class : ShiftClass) (l imm6 : ℕ) → column_of class l imm6 < 4
unfolding column_of
column-small Right l imm6 = code_lt l imm6
column-small Left l imm6 = code_lt l imm6
column-small Narrow l imm6 = code_lt l imm6
column-small Long l imm6 = code_lt l imm6
column-small Convert l imm6 = omega arith

module _ (hw1 hw2 : ℕ) (l1 : hw1 < 65536) (l2 : hw2 < 65536) (f : ImmediateBits hw1 hw2 false) where
  abbrev u : ℕ
  u = bit 12 hw1

  abbrev o : ℕ
  o = field 11 8 hw2

  abbrev q : ℕ
  q = bit 6 hw2

  abbrev t : ℕ
  t = bit 7 hw2 * 64 + field 5 0 hw1

  t-l : bit 6 t ≡ bit 7 hw2
  t-l = omega arith

  t-i : field 5 0 t ≡ field 5 0 hw1
  t-i = omega arith

  abbrev s : ℕ
  s = column_of (get_or shift_classes (u * 32 + o * 2 + q) Right) (bit 7 hw2) (field 5 0 hw1)

  s-small : s < 4
  s-small = column-small (get_or shift_classes (u * 32 + o * 2 + q) Right) (bit 7 hw2) (field 5 0 hw1)

  abbrev cell : ℕ
  cell = cell_of u o q s

  k : CellFields u o q s
  k = cell-fields u o q s (omega arith) (omega arith) (omega arith) s-small

  packs : shift_pair cell q t (d_of hw1 hw2) (m_of hw1 hw2) ≡ pair hw1 hw2
  unfolding shift_pair
  packs =
      rw (
        k.u-back,
        k.o-back,
        t-l,
        t-i,
        (d-fields hw1 hw2).hi-back,
        (d-fields hw1 hw2).lo_back,
        (m-fields hw1 hw2).hi-back,
        (m-fields hw1 hw2).lo_back,
      )
      (λ i. pair (rw f.a at (first_packed hw1 l1 f.top f.middle) i) (rw f.b4 at (second_packed hw2 l2) i))

  pub shift-forth : (address : ℕ) (i : Insn) (mark : Mark) (other : ℕ) → shift_reading hw1 hw2 address ≡ accepted i
      → writing (with_mark i mark other) ≡ accepted (pair hw1 hw2)
  unfolding shift_reading
  shift-forth address i mark other e =
      written-again cell q t (d_of hw1 hw2) (m_of hw1 hw2) address i mark other (pair hw1 hw2) k.small k.b-back (omega arith) (omega arith)
      (d-fields hw1 hw2).small (m-fields hw1 hw2).small (rw (k.row, t-l, t-i, k.column)) (rw (t-l, t-i) f.escapes) packs
      (rw (k.row, t-l, t-i, k.u-back) e)
