-- Three registers of different lengths: written and read again, and read and written again.
-- Assumes nothing.
use mathlib.Core.Path.{◌≡◌, refl, ap, ◌∙◌}
use mathlib.Core.Bool.{Bool, false, not}
use Prim.Native.Nat.{ℕ, ◌+◌, ◌*◌, ◌/◌, ◌%◌, ◌<◌}
use native.Mathlib.Omega.{arith}
use lib.Dec.{eqb}
use lib.ListN.{get_or}
use lib.Text.{eqt}
use borrow.Author.Tests.{eqb-true}
use Rattle.laws.specs.Answer.{accepted}
use Rattle.laws.specs.Choice.{choose}
use Rattle.laws.proofs.Digits.{digit}
use Rattle.laws.proofs.Range.{values, agree}
use Rattle.insn.specs.declared.Edition.TheVariants.{C}
use Rattle.insn.specs.declared.Insn.{Insn}
use Rattle.insn.specs.declared.Mark.{Mark}
use Rattle.insn.specs.declared.Mark.TheVariants.{T1}
use Rattle.insn.specs.declared.Operand.{Operand}
use Rattle.insn.specs.Record.{place_at}
use Rattle.tables.specs.Cells.{cell_at}
use Rattle.names.specs.Names.{name_of, number_of}
use Rattle.register_tables.specs.Diff.{diff_rows, diff_cells, diff_shapes, diff_marks}
use Rattle.homes.specs.Home.{home_of}
use Rattle.tables.specs.declared.DiffShape.{DiffShape}
use Rattle.tables.specs.declared.DiffShape.TheVariants.{Long}
use Rattle.homes.specs.declared.Home.TheVariants.{Diff}
use Rattle.tables.proofs.Cells.{cell4}
use Rattle.names.proofs.Known.{named}
use Rattle.homes.proofs.Cells.{diff-stands, diff-home}
use Rattle.names.proofs.Promises.{numbers_back}
use Rattle.fields.specs.Halfwords.{bit, field, first, second}
use Rattle.fields.specs.Registers.{dnum_of, vec_of}
use Rattle.fields.specs.Promises.{FirstFields, SecondFields}
use Rattle.fields.proofs.Promises.{first_unpacked, second_unpacked, first_packed, second_packed}
use Rattle.readings.specs.Operands.{insn}
use Rattle.readings.specs.Operands as Read
use Rattle.read_registers.specs.Diff.{diff_of, diff_reading}
use Rattle.decode.specs.Reading.{reading, in_family}
use Rattle.writings.specs.Forms.{Pair, pair, register_in, Three, all_three, numbers}
use Rattle.write_registers.specs.Diff.{diff_pair, diff_form, diff_shaped, diff_writing}
use Rattle.trips.specs.Spelling.{moved_name, canonical, with_mark}
use Rattle.encode.specs.Writing.{writing}
use Rattle.trips.specs.Promises.{ReadsAs}
use Rattle.trips.proofs.Canonical.{spelt, as-spelt}
use Rattle.writings.proofs.Pairs.{hw1_of, hw2_of}
use Rattle.trips.proofs.Registers.{threefold, then, register-back, register-forth, no_number, no_zero}
use Rattle.readings.proofs.Parts.{operands}
use Rattle.trips.proofs.Routing.{DiffBits, to-diff, number-back, d_of, n_of, m_of, d-fields, n-fields, m-fields, upper-two, lower-four, six}
use Rattle.laws.proofs.Tests.{both-no, chosen, passed}
use Rattle.tables.specs.Lengths.{shape_lengths}

abbrev shape_at : ℕ → DiffShape
shape_at row = get_or diff_shapes row Long

abbrev mark_at : ℕ → Mark
mark_at row = get_or diff_marks row T1

-- a place of the table, U:A:size
cell_row : (k : ℕ) → k < 128 → bit 6 k * 16 + field 5 2 k ≡ k / 4
cell_row k h = omega (arith, digit k 4 16)

cell-column : (k : ℕ) → field 1 0 k ≡ k % 4
cell-column k = omega arith

abbrev place : ℕ → ℕ → ℕ → ℕ
place u o s = u * 64 + o * 4 + s

record PlaceFields (u o s : ℕ) : Type 0 where
  u-back : bit 6 (place u o s) ≡ u
  o-back : field 5 2 (place u o s) ≡ o
  s-back : field 1 0 (place u o s) ≡ s
  row : place u o s / 4 ≡ u * 16 + o
  column : place u o s % 4 ≡ s
  small : place u o s < 128

place-fields : (u o s : ℕ) → u < 2 → o < 16 → s < 4 → PlaceFields u o s
place-fields u o s hu ho hs =
    record { u-back = omega arith; o-back = omega arith; s-back = omega arith; row = omega arith; column = omega arith; small = omega arith }

-- the last column is blank
three-columns : (k : ℕ) → k < 128 → eqt (cell4 diff_cells k) "" ≡ false → eqb (k % 4) 3 ≡ false
unfolding values diff_rows diff_cells
three-columns k h e =
    rw e at (agree (λ (k : ℕ). choose (eqt (cell4 diff_cells k) "") false (eqb (k % 4) 3)) (λ (k : ℕ). false) 128 refl k h)

no-vorr : (k : ℕ) → k < 128 → eqt (cell4 diff_cells k) "vorr" ≡ false
unfolding values diff_rows diff_cells
no-vorr = agree (λ (k : ℕ). eqt (cell4 diff_cells k) "vorr") (λ (k : ℕ). false) 128 refl

-- a reading, by its fields
fields : (hw1 hw2 address row size d n m : ℕ) → DiffBits hw1 hw2
    → bit 12 hw1 * 16 + field 11 8 hw2 ≡ row → field 5 4 hw1 ≡ size
    → dnum_of (bit 6 hw1) (field 15 12 hw2) ≡ d → dnum_of (bit 7 hw2) (field 3 0 hw1) ≡ n → dnum_of (bit 5 hw2) (field 3 0 hw2) ≡ m
    → reading hw1 hw2 address ≡ diff_of (cell_at diff_cells row size) (shape_at row) (mark_at row) d n m address
unfolding reading in_family diff_reading
fields hw1 hw2 address row size d n m f er es ed en em = rw (to-diff hw1 hw2 f, er, es, ed, en, em)

-- written, then read

module _ (k d n m : ℕ) (hk : k < 128) (hd : d < 32) (hn : n < 32) (hm : m < 32) (sized : eqb (k % 4) 3 ≡ false) where
  abbrev h1 : ℕ
  h1 = first (bit 6 k) 1 (bit 4 d) (field 1 0 k * 16 + field 3 0 n)

  abbrev h2 : ℕ
  h2 = second (field 3 0 d) (field 5 2 k) (bit 4 n) 0 (bit 4 m) 0 (field 3 0 m)

  f1 : FirstFields (bit 6 k) 1 (bit 4 d) (field 1 0 k * 16 + field 3 0 n)
  f1 = first_unpacked (bit 6 k) 1 (bit 4 d) (field 1 0 k * 16 + field 3 0 n) (omega arith) (omega arith) (omega arith) (omega arith)

  f2 : SecondFields (field 3 0 d) (field 5 2 k) (bit 4 n) 0 (bit 4 m) 0 (field 3 0 m)
  f2 =
      second_unpacked (field 3 0 d) (field 5 2 k) (bit 4 n) 0 (bit 4 m) 0 (field 3 0 m)
      (omega arith) (omega arith) (omega arith) (omega arith) (omega arith) (omega arith) (omega arith)

  column : field 5 4 h1 ≡ k % 4
  column = upper-two h1 (field 1 0 k) (field 3 0 n) (omega arith) f1.x-back ∙ cell-column k

  reads : (address : ℕ) → reading h1 h2 address ≡ diff_of (cell4 diff_cells k) (shape_at (k / 4)) (mark_at (k / 4)) d n m address
  reads address =
      fields h1 h2 address (k / 4) (k % 4) d n m
      (record { top = f1.top; middle = f1.middle; a = f1.a_back; b4 = f2.b4-back; b6 = f2.b6-back; sized = rw column sized })
      (rw (f1.u-back, f2.o-back) (cell_row k hk))
      column
      (rw (f1.d-back, f2.vd-back) (number-back d hd))
      (rw (f2.b7-back, lower-four h1 (field 1 0 k) (field 3 0 n) (omega arith) f1.x-back) (number-back n hn))
      (rw (f2.b5-back, f2.y-back) (number-back m hm))

  pair_reads : (hw1 hw2 address : ℕ) → diff_pair k d n m ≡ pair hw1 hw2
      → (reading hw1 hw2 address ≡ diff_of (cell4 diff_cells k) (shape_at (k / 4)) (mark_at (k / 4)) d n m address) × (hw1 < 65536) × (hw2 < 65536)
  unfolding diff_pair
  pair_reads hw1 hw2 address e = rw (← ap hw1_of e, ← ap hw2_of e) (reads address, f1.halfword, f2.halfword)

record Written (k : ℕ) (shape : DiffShape) (count : ℕ) (a b c : Operand) (hw1 hw2 : ℕ) : Type 0 where
  counted : count ≡ 3
  x : ℕ
  y : ℕ
  z : ℕ
  first-is : (vec_of (shape_lengths shape).d x ≡ accepted a) × (x < 32)
  second_is : (vec_of (shape_lengths shape).n y ≡ accepted b) × (y < 32)
  third-is : (vec_of (shape_lengths shape).m z ≡ accepted c) × (z < 32)
  packed : diff_pair k x y z ≡ pair hw1 hw2

written : (k : ℕ) (shape : DiffShape) (count : ℕ) (a b c : Operand) (hw1 hw2 : ℕ)
    → diff_shaped shape k count a b c ≡ accepted (pair hw1 hw2) → Written k shape count a b c hw1 hw2
unfolding diff_shaped
written k shape count a b c hw1 hw2 e =
    let u = chosen (eqb count 3) _ 8 (pair hw1 hw2) e in
    let t = then _ (diff_form k) (pair hw1 hw2) u.1 in
    go t.0 (eqb-true count 3 u.0) t.1 t.2
  where
    go : (t : Three) → count ≡ 3
        → all_three (register_in (shape_lengths shape).d a) (register_in (shape_lengths shape).n b) (register_in (shape_lengths shape).m c) ≡ accepted t
        → diff_form k t ≡ accepted (pair hw1 hw2) → Written k shape count a b c hw1 hw2
    go (numbers x y z) n r f =
        let r3 = threefold _ _ _ x y z r in
        record {
          counted = n;
          x = x;
          y = y;
          z = z;
          first-is = register-back (shape_lengths shape).d a x r3.first;
          second_is = register-back (shape_lengths shape).n b y r3.second;
          third-is = register-back (shape_lengths shape).m c z r3.third;
          packed = cc (f);
        }

pub diff-back : (m k count : ℕ) (a b c : Operand) (number : Bool) (hw1 hw2 address : ℕ) → home_of (name_of m) number ≡ Diff k
    → diff_writing k count a b c ≡ accepted (pair hw1 hw2) → ReadsAs C hw1 hw2 address (canonical (spelt m count a b c))
unfolding Read.three diff_of
diff-back m k count a b c number hw1 hw2 address home e =
    let w = written k (shape_at (k / 4)) count a b c hw1 hw2 e in
    let st = diff-stands number m k home in
    let filled : eqt (name_of m) "" ≡ false = named m st.known in
    let vorr : eqt (name_of m) "vorr" ≡ false = rw st.spelled at (no-vorr k st.within) in
    let sized = three-columns k st.within (rw st.spelled filled) in
    let r = pair_reads k w.x w.y w.z st.within w.first-is.1 w.second_is.1 w.third-is.1 sized hw1 hw2 address w.packed in
    let plain =
    as-spelt m count a b c (rw vorr)
    (rw (no_zero (shape_lengths (shape_at (k / 4))).m w.z c w.third-is.0) (both-no (not (eqt (moved_name (name_of m)) "")))) in
    record {
      first-halfword = r.1;
      second-halfword = r.2;
      mark = mark_at (k / 4);
      read =
          rw (
            r.0,
            st.spelled,
            filled,
            w.first-is.0,
            w.second_is.0,
            w.third-is.0,
            numbers_back m st.known,
            plain,
            w.counted,
          );
    }

-- read, then written

writes : (m k : ℕ) (mark : Mark) (address : ℕ) (x y z : ℕ) (a b c : Operand) → x < 32 → y < 32 → z < 32
    → vec_of (shape_lengths (shape_at (k / 4))).d x ≡ accepted a → vec_of (shape_lengths (shape_at (k / 4))).n y ≡ accepted b → vec_of (shape_lengths (shape_at (k / 4))).m z ≡ accepted c
    → home_of (name_of m) false ≡ Diff k → writing (insn m mark address 3 a b c) ≡ accepted (diff_pair k x y z)
unfolding writing place_at diff_shaped all_three
writes m k mark address x y z a b c hx hy hz ea eb ec home =
    rw (
      no_number (shape_lengths (shape_at (k / 4))).m z c ec,
      home,
      register-forth (shape_lengths (shape_at (k / 4))).d x a hx ea,
      register-forth (shape_lengths (shape_at (k / 4))).n y b hy eb,
      register-forth (shape_lengths (shape_at (k / 4))).m z c hz ec,
    )

written-again : (k d n m address : ℕ) (i : Insn) (mark : Mark) (other : ℕ) (p : Pair) → k < 128 → d < 32 → n < 32 → m < 32
    → diff_pair k d n m ≡ p → diff_of (cell4 diff_cells k) (shape_at (k / 4)) (mark_at (k / 4)) d n m address ≡ accepted i
    → writing (with_mark i mark other) ≡ accepted p
unfolding diff_of
written-again k d n m address i mark other p hk hd hn hm ep e =
    let q = passed (eqt (cell4 diff_cells k) "") 3 _ i e in
    let number = number_of (cell4 diff_cells k) in
    let t = operands number (mark_at (k / 4)) address _ _ _ i q.1 in
    rw (← t.is)
    (writes number k mark other d n m t.a t.b t.c hd hn hm t.first t.second t.third (diff-home k hk q.0) ∙ ap accepted ep)

module _ (hw1 hw2 : ℕ) (l1 : hw1 < 65536) (l2 : hw2 < 65536) (f : DiffBits hw1 hw2) where
  abbrev cell : ℕ
  cell = place (bit 12 hw1) (field 11 8 hw2) (field 5 4 hw1)

  k : PlaceFields (bit 12 hw1) (field 11 8 hw2) (field 5 4 hw1)
  k = place-fields (bit 12 hw1) (field 11 8 hw2) (field 5 4 hw1) (omega arith) (omega arith) (omega arith)

  packs : diff_pair cell (d_of hw1 hw2) (n_of hw1 hw2) (m_of hw1 hw2) ≡ pair hw1 hw2
  unfolding diff_pair
  packs =
      rw (
        k.u-back,
        k.o-back,
        k.s-back,
        (d-fields hw1 hw2).hi-back,
        (d-fields hw1 hw2).lo_back,
        (n-fields hw1 hw2).hi-back,
        (n-fields hw1 hw2).lo_back,
        (m-fields hw1 hw2).hi-back,
        (m-fields hw1 hw2).lo_back,
        six hw1,
      )
      (λ i. pair (rw f.a at (first_packed hw1 l1 f.top f.middle) i) (rw (f.b6, f.b4) at (second_packed hw2 l2) i))

  pub diff-forth : (address : ℕ) (i : Insn) (mark : Mark) (other : ℕ) → diff_reading hw1 hw2 address ≡ accepted i
      → writing (with_mark i mark other) ≡ accepted (pair hw1 hw2)
  unfolding diff_reading
  diff-forth address i mark other e =
      written-again cell (d_of hw1 hw2) (n_of hw1 hw2) (m_of hw1 hw2) address i mark other (pair hw1 hw2) k.small
      (d-fields hw1 hw2).small (n-fields hw1 hw2).small (m-fields hw1 hw2).small packs (rw (k.row, k.column) e)
