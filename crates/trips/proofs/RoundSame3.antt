-- Three registers of the same length: written and read again, and read and written again.
-- Assumes nothing.
use mathlib.Core.Path.{◌≡◌, refl, sym, ap, ◌∙◌}
use mathlib.Core.Bool.{Bool, true, false, not}
use Prim.Native.Nat.{ℕ, ◌+◌, ◌*◌, ◌/◌, ◌%◌, ◌<◌}
use Prim.Native.String.{String}
use native.Mathlib.Omega.{arith}
use lib.Dec.{eqb}
use lib.Text.{eqt}
use borrow.Author.Tests.{eq-eqb, eqb-true}
use Rattle.laws.specs.Answer.{accepted, refused}
use Rattle.laws.specs.Choice.{choose, both}
use Rattle.laws.proofs.Digits.{digit}
use Rattle.laws.proofs.Range.{values, agree}
use Rattle.insn.specs.declared.Edition.TheVariants.{C}
use Rattle.insn.specs.declared.Insn.{Insn}
use Rattle.insn.specs.declared.Mark.{Mark}
use Rattle.insn.specs.declared.Mark.TheVariants.{T1}
use Rattle.insn.specs.declared.Operand.{Operand}
use Rattle.insn.specs.declared.Operand.TheVariants.{Absent}
use Rattle.insn.specs.Record.{place_at}
use Rattle.tables.specs.Cells.{cell_at}
use Rattle.names.specs.Names.{name_of, number_of, pairwise}
use Rattle.register_tables.specs.Same3.{same3}
use Rattle.homes.specs.Home.{home_of}
use Rattle.homes.specs.declared.Home.TheVariants.{Same3, Vmov}
use Rattle.tables.proofs.Cells.{cell4}
use Rattle.homes.proofs.Cells.{Stands, same3-stands, vmov-stands, same3-home, vmov-home}
use Rattle.names.proofs.Known.{named}
use Rattle.names.proofs.Promises.{numbers_back}
use Rattle.fields.specs.Halfwords.{bit, field, first, second}
use Rattle.fields.specs.Registers.{dnum_of, vec_of}
use Rattle.fields.specs.Promises.{FirstFields, SecondFields}
use Rattle.fields.proofs.Promises.{first_unpacked, second_unpacked, first_packed, second_packed}
use Rattle.readings.specs.Operands.{is_set, insn}
use Rattle.readings.specs.Operands as Read
use Rattle.read_registers.specs.Same3.{shifts_by_register, same3_of, same3_name, same3_reading}
use Rattle.decode.specs.Reading.{family_of, reading, in_family}
use Rattle.decode.specs.declared.Family.TheVariants.{ThreeSame}
use Rattle.writings.specs.Forms.{Pair, pair, cell_of, as_bit, is_quad, register_in, Three, all_three, numbers}
use Rattle.write_registers.specs.Same3.{same3_pair, same3_form, same3_writing, vorr_cell, vmov_writing}
use Rattle.trips.specs.Spelling.{same_register, is_zero, moved_name, canonical, with_mark}
use Rattle.encode.specs.Writing.{writing}
use Rattle.trips.specs.Promises.{ReadsAs}
use Rattle.trips.proofs.Registers.{threefold, then, register-back, register-forth, quad-of, no_number, no_zero, same-registers}
use Rattle.readings.proofs.Parts.{operands, two_operands}
use Rattle.trips.proofs.Canonical.{spelt, as-spelt, as-vmov}
use Rattle.writings.proofs.Pairs.{hw1_of, hw2_of}
use Rattle.laws.proofs.Tests.{both_true, both-no, chosen, passed}
use Rattle.trips.proofs.Routing.{SameBits, to_same, set-bit, bit-set, bit-small, number-back, d_of, n_of, m_of, d-fields, n-fields, m-fields, CellFields, cell-fields, upper-two, lower-four, six}

-- a cell of the table, U:opc:B:size
cell_row : (k : ℕ) → k < 256 → bit 7 k * 32 + field 6 3 k * 2 + bit 2 k ≡ k / 4
cell_row k h = omega (arith, digit k 4 2, digit k 8 16)

cell-column : (k : ℕ) → field 1 0 k ≡ k % 4
cell-column k = omega arith

-- a reading, by its fields
fields : (hw1 hw2 address row size opc d n m : ℕ) (quad : Bool) → SameBits hw1
    → bit 12 hw1 * 32 + field 11 8 hw2 * 2 + bit 4 hw2 ≡ row → field 5 4 hw1 ≡ size → is_set (bit 6 hw2) ≡ quad → field 11 8 hw2 ≡ opc
    → dnum_of (bit 6 hw1) (field 15 12 hw2) ≡ d → dnum_of (bit 7 hw2) (field 3 0 hw1) ≡ n → dnum_of (bit 5 hw2) (field 3 0 hw2) ≡ m
    → reading hw1 hw2 address ≡ same3_of (cell_at same3 row size) quad opc d n m address
unfolding reading in_family same3_reading
fields hw1 hw2 address row size opc d n m quad f er es eq eo ed en em = rw (to_same hw1 hw2 f, er, es, eq, eo, ed, en, em)

-- the reading of a pair that was written
module _ (k d n m : ℕ) (quad : Bool) (hk : k < 256) (hd : d < 32) (hn : n < 32) (hm : m < 32) where
  abbrev h1 : ℕ
  h1 = first (bit 7 k) 0 (bit 4 d) (field 1 0 k * 16 + field 3 0 n)

  abbrev h2 : ℕ
  h2 = second (field 3 0 d) (field 6 3 k) (bit 4 n) (as_bit quad) (bit 4 m) (bit 2 k) (field 3 0 m)

  f1 : FirstFields (bit 7 k) 0 (bit 4 d) (field 1 0 k * 16 + field 3 0 n)
  f1 = first_unpacked (bit 7 k) 0 (bit 4 d) (field 1 0 k * 16 + field 3 0 n) (omega arith) (omega arith) (omega arith) (omega arith)

  f2 : SecondFields (field 3 0 d) (field 6 3 k) (bit 4 n) (as_bit quad) (bit 4 m) (bit 2 k) (field 3 0 m)
  f2 =
      second_unpacked (field 3 0 d) (field 6 3 k) (bit 4 n) (as_bit quad) (bit 4 m) (bit 2 k) (field 3 0 m)
      (omega arith) (omega arith) (omega arith) (bit-small quad) (omega arith) (omega arith) (omega arith)

  same_bits : SameBits h1
  same_bits = record { top = f1.top; middle = f1.middle; a = f1.a_back }

  row_back : bit 12 h1 * 32 + field 11 8 h2 * 2 + bit 4 h2 ≡ k / 4
  row_back = rw (f1.u-back, f2.o-back, f2.b4-back) (cell_row k hk)

  column-back : field 5 4 h1 ≡ k % 4
  column-back = upper-two h1 (field 1 0 k) (field 3 0 n) (omega arith) f1.x-back ∙ cell-column k

  reads : (address : ℕ) → reading h1 h2 address ≡ same3_of (cell4 same3 k) quad (field 6 3 k) d n m address
  reads address =
      fields h1 h2 address (k / 4) (k % 4) (field 6 3 k) d n m quad same_bits row_back column-back
      (rw f2.b6-back (bit-set quad))
      f2.o-back
      (rw (f1.d-back, f2.vd-back) (number-back d hd))
      (rw (f2.b7-back, lower-four h1 (field 1 0 k) (field 3 0 n) (omega arith) f1.x-back) (number-back n hn))
      (rw (f2.b5-back, f2.y-back) (number-back m hm))

  pub pair_reads : (hw1 hw2 address : ℕ) → same3_pair k quad d n m ≡ pair hw1 hw2
      → (reading hw1 hw2 address ≡ same3_of (cell4 same3 k) quad (field 6 3 k) d n m address) × (hw1 < 65536) × (hw2 < 65536)
  unfolding same3_pair
  pair_reads hw1 hw2 address e = rw (← ap hw1_of e, ← ap hw2_of e) (reads address, f1.halfword, f2.halfword)

  pair-cell : (hw1 hw2 : ℕ) → same3_pair k quad d n m ≡ pair hw1 hw2
      → (family_of hw1 hw2 ≡ ThreeSame) × (same3_name hw1 hw2 ≡ cell4 same3 k)
  unfolding same3_pair
  pair-cell hw1 hw2 e = rw (← ap hw1_of e, ← ap hw2_of e) (to_same h1 h2 same_bits, rw (row_back, column-back))

-- what a writing that is accepted is made of
pub record Written (k : ℕ) (name : String) (quad : Bool) (count : ℕ) (a b c : Operand) (hw1 hw2 : ℕ) : Type 0 where
  pub counted : count ≡ 3
  pub x : ℕ
  pub y : ℕ
  pub z : ℕ
  pub first : (vec_of quad x ≡ accepted a) × (x < 32)
  pub second : (vec_of quad y ≡ accepted b) × (y < 32)
  pub third : (vec_of quad z ≡ accepted c) × (z < 32)
  pub single : both quad (pairwise name) ≡ false
  pub packed : choose (shifts_by_register (field 6 3 k)) (same3_pair k quad x z y) (same3_pair k quad x y z) ≡ pair hw1 hw2

pub written : (k : ℕ) (name : String) (count : ℕ) (a b c : Operand) (hw1 hw2 : ℕ)
    → same3_writing k name count a b c ≡ accepted (pair hw1 hw2) → Written k name (is_quad a) count a b c hw1 hw2
unfolding same3_writing same3_form
written k name count a b c hw1 hw2 e =
    let u = chosen (eqb count 3) _ 8 (pair hw1 hw2) e in
    let t = then _ (same3_form k name (is_quad a)) (pair hw1 hw2) u.1 in
    go t.0 (eqb-true count 3 u.0) t.1 t.2
  where
    go : (t : Three) → count ≡ 3
        → all_three (register_in (is_quad a) a) (register_in (is_quad a) b) (register_in (is_quad a) c) ≡ accepted t
        → same3_form k name (is_quad a) t ≡ accepted (pair hw1 hw2) → Written k name (is_quad a) count a b c hw1 hw2
    go (numbers x y z) n r f =
        let r3 = threefold _ _ _ x y z r in
        let p = passed (both (is_quad a) (pairwise name)) 5 _ (pair hw1 hw2) f in
        record {
          counted = n;
          x = x;
          y = y;
          z = z;
          first = register-back (is_quad a) a x r3.first;
          second = register-back (is_quad a) b y r3.second;
          third = register-back (is_quad a) c z r3.third;
          single = p.0;
          packed = cc p.1;
        }

-- its pair is of the cell
pub written-cell : (k : ℕ) {name : String} {quad : Bool} {count : ℕ} {a b c : Operand} {hw1 hw2 : ℕ} → k < 256 → Written k name quad count a b c hw1 hw2
    → (family_of hw1 hw2 ≡ ThreeSame) × (same3_name hw1 hw2 ≡ cell4 same3 k)
written-cell k {name} {quad} {count} {a} {b} {c} {hw1} {hw2} h w = go (shifts_by_register (field 6 3 k)) w.packed
  where
    go : (s : Bool) → choose s (same3_pair k quad w.x w.z w.y) (same3_pair k quad w.x w.y w.z) ≡ pair hw1 hw2
        → (family_of hw1 hw2 ≡ ThreeSame) × (same3_name hw1 hw2 ≡ cell4 same3 k)
    go true p = pair-cell k w.x w.z w.y quad h w.first.1 w.third.1 w.second.1 hw1 hw2 p
    go false p = pair-cell k w.x w.y w.z quad h w.first.1 w.second.1 w.third.1 hw1 hw2 p

-- what a cell is read as
module _ (name : String) (quad : Bool) (opc d n m address : ℕ) (filled : eqt name "" ≡ false) (single : both quad (pairwise name) ≡ false) where
  of-moved : both (eqt name "vorr") (eqb n m) ≡ true → same3_of name quad opc d n m address ≡ Read.two (number_of "vmov") T1 address (vec_of quad d) (vec_of quad m)
  unfolding same3_of
  of-moved e = rw (filled, single, e)

  of-swapped : both (eqt name "vorr") (eqb n m) ≡ false → shifts_by_register opc ≡ true
      → same3_of name quad opc d n m address ≡ Read.three (number_of name) T1 address (vec_of quad d) (vec_of quad m) (vec_of quad n)
  unfolding same3_of
  of-swapped e s = rw (filled, single, e, s)

  of_plain : both (eqt name "vorr") (eqb n m) ≡ false → shifts_by_register opc ≡ false
      → same3_of name quad opc d n m address ≡ Read.three (number_of name) T1 address (vec_of quad d) (vec_of quad n) (vec_of quad m)
  unfolding same3_of
  of_plain e s = rw (filled, single, e, s)

-- VORR stands in one cell, and in none of the shifts by register
vorr-cell : (k : ℕ) → k < 256 → eqt (cell4 same3 k) "vorr" ≡ eqb k vorr_cell
unfolding values same3
vorr-cell = agree (λ (k : ℕ). eqt (cell4 same3 k) "vorr") (λ (k : ℕ). eqb k vorr_cell) 256 refl

no-vorr : (k : ℕ) → k < 256 → shifts_by_register (field 6 3 k) ≡ true → eqt (cell4 same3 k) "vorr" ≡ false
unfolding values same3
no-vorr k h e =
    rw e at
    (agree (λ (k : ℕ). choose (shifts_by_register (field 6 3 k)) (eqt (cell4 same3 k) "vorr") false) (λ (k : ℕ). false) 256 refl k h)

-- written, then read

pub same3-back : (m k count : ℕ) (a b c : Operand) (number : Bool) (hw1 hw2 address : ℕ) → home_of (name_of m) number ≡ Same3 k
    → same3_writing k (name_of m) count a b c ≡ accepted (pair hw1 hw2) → ReadsAs C hw1 hw2 address (canonical (spelt m count a b c))
unfolding Read.three Read.two
same3-back m k count a b c number hw1 hw2 address home e =
    go (shifts_by_register (field 6 3 k)) (both (eqt (name_of m) "vorr") (eqb w.y w.z)) refl refl w.packed
  where
    w : Written k (name_of m) (is_quad a) count a b c hw1 hw2
    w = written k (name_of m) count a b c hw1 hw2 e

    st : Stands m k 256 (cell4 same3)
    st = same3-stands number m k home

    filled : eqt (name_of m) "" ≡ false
    filled = named m st.known

    same : same_register b c ≡ eqb w.y w.z
    same = same-registers (is_quad a) w.y w.z b c w.second w.third

    zero : both (not (eqt (moved_name (name_of m)) "")) (is_zero c) ≡ false
    zero = rw (no_zero (is_quad a) w.z c w.third.0) (both-no (not (eqt (moved_name (name_of m)) "")))

    go : (s v : Bool) → shifts_by_register (field 6 3 k) ≡ s → both (eqt (name_of m) "vorr") (eqb w.y w.z) ≡ v
        → choose s (same3_pair k (is_quad a) w.x w.z w.y) (same3_pair k (is_quad a) w.x w.y w.z) ≡ pair hw1 hw2
        → ReadsAs C hw1 hw2 address (canonical (spelt m count a b c))
    go true v es ev p =
        let r = pair_reads k w.x w.z w.y (is_quad a) st.within w.first.1 w.third.1 w.second.1 hw1 hw2 address p in
        let none : eqt (name_of m) "vorr" ≡ false = rw st.spelled at (no-vorr k st.within es) in
        let plain = as-spelt m count a b c (rw none) zero in
        record {
          first-halfword = r.1;
          second-halfword = r.2;
          mark = T1;
          read =
              rw (r.0, st.spelled, of-swapped (name_of m) (is_quad a) (field 6 3 k) w.x w.z w.y address filled w.single (rw none) es, w.first.0, w.second.0, w.third.0, numbers_back m st.known, plain, w.counted);
        }
    go false true es ev p =
        let r = pair_reads k w.x w.y w.z (is_quad a) st.within w.first.1 w.second.1 w.third.1 hw1 hw2 address p in
        let moved = as-vmov m count a b c w.counted (rw same ev) in
        let equal : w.y ≡ w.z = eqb-true w.y w.z (both_true (eqt (name_of m) "vorr") _ ev).1 in
        record {
          first-halfword = r.1;
          second-halfword = r.2;
          mark = T1;
          read =
              rw (r.0, st.spelled, of-moved (name_of m) (is_quad a) (field 6 3 k) w.x w.y w.z address filled w.single ev, w.first.0, ← equal, w.second.0, moved);
        }
    go false false es ev p =
        let r = pair_reads k w.x w.y w.z (is_quad a) st.within w.first.1 w.second.1 w.third.1 hw1 hw2 address p in
        let plain = as-spelt m count a b c (rw same ev) zero in
        record {
          first-halfword = r.1;
          second-halfword = r.2;
          mark = T1;
          read =
              rw (r.0, st.spelled, of_plain (name_of m) (is_quad a) (field 6 3 k) w.x w.y w.z address filled w.single ev es, w.first.0, w.second.0, w.third.0, numbers_back m st.known, plain, w.counted);
        }

vorr-here : cell4 same3 vorr_cell ≡ "vorr"
unfolding same3
vorr-here = refl

one_number : (quad : Bool) (y z : ℕ) (b : Operand) → y < 32 → z < 32 → vec_of quad y ≡ accepted b → vec_of quad z ≡ accepted b → y ≡ z
one_number quad y z b hy hz ey ez = cc (sym (register-forth quad y b hy ey) ∙ register-forth quad z b hz ez)

pub vmov-back : (m count : ℕ) (a b c : Operand) (number : Bool) (hw1 hw2 address : ℕ) → home_of (name_of m) number ≡ Vmov → (count ≡ 2 → c ≡ Absent)
    → vmov_writing count a b ≡ accepted (pair hw1 hw2) → ReadsAs C hw1 hw2 address (canonical (spelt m count a b c))
unfolding vmov_writing Read.two
vmov-back m count a b c number hw1 hw2 address home absent e =
    let u = chosen (eqb count 2) _ 8 (pair hw1 hw2) e in
    let w = written vorr_cell "vorr" 3 a b b hw1 hw2 u.1 in
    let quad = is_quad a in
    let st = vmov-stands number m home in
    let r = pair_reads vorr_cell w.x w.y w.z quad (omega arith) w.first.1 w.second.1 w.third.1 hw1 hw2 address w.packed in
    let equal = one_number quad w.y w.z b w.second.1 w.third.1 w.second.0 w.third.0 in
    let two : count ≡ 2 = eqb-true count 2 u.0 in
    let plain = as-spelt m count a b c (rw st.1) (rw st.1) in
    let mnemonic : number_of "vmov" ≡ m = ap number_of (sym st.1) ∙ numbers_back m st.0 in
    record {
      first-halfword = r.1;
      second-halfword = r.2;
      mark = T1;
      read =
          rw (
            r.0,
            vorr-here,
            of-moved "vorr" quad (field 6 3 vorr_cell) w.x w.y w.z address refl w.single (eq-eqb w.y w.z equal),
            w.first.0,
            w.third.0,
            plain,
            absent two,
            two,
            mnemonic,
          );
    }

-- read, then written

writes : (m k : ℕ) (mark : Mark) (address : ℕ) (quad : Bool) (x y z : ℕ) (a b c : Operand) → x < 32 → y < 32 → z < 32
    → vec_of quad x ≡ accepted a → vec_of quad y ≡ accepted b → vec_of quad z ≡ accepted c
    → home_of (name_of m) false ≡ Same3 k → both quad (pairwise (name_of m)) ≡ false
    → writing (insn m mark address 3 a b c) ≡ accepted (choose (shifts_by_register (field 6 3 k)) (same3_pair k quad x z y) (same3_pair k quad x y z))
unfolding writing place_at same3_writing same3_form all_three
writes m k mark address quad x y z a b c hx hy hz ea eb ec home single =
    rw (
      no_number quad z c ec,
      home,
      quad-of quad x a ea,
      register-forth quad x a hx ea,
      register-forth quad y b hy eb,
      register-forth quad z c hz ec,
      single,
    )

writes-vmov : (mark : Mark) (address : ℕ) (quad : Bool) (x y : ℕ) (a b : Operand) → x < 32 → y < 32
    → vec_of quad x ≡ accepted a → vec_of quad y ≡ accepted b
    → writing (insn (number_of "vmov") mark address 2 a b Absent) ≡ accepted (same3_pair vorr_cell quad x y y)
unfolding writing place_at vmov_writing same3_writing same3_form all_three pairwise
writes-vmov mark address quad x y a b hx hy ea eb =
    rw (vmov-home, quad-of quad x a ea, register-forth quad x a hx ea, register-forth quad y b hy eb, both-no quad)

-- a cell's reading, written
written-again : (k o d n m : ℕ) (quad : Bool) (address : ℕ) (i : Insn) (mark : Mark) (other : ℕ) (p : Pair) → k < 256 → d < 32 → n < 32 → m < 32
    → field 6 3 k ≡ o → same3_pair k quad d n m ≡ p → same3_of (cell4 same3 k) quad o d n m address ≡ accepted i
    → writing (with_mark i mark other) ≡ accepted p
unfolding same3_of
written-again k o d n m quad address i mark other p hk hd hn hm eo ep e =
    go (both (eqt (cell4 same3 k) "vorr") (eqb n m)) (shifts_by_register o) refl refl p2.1
  where
    p1 : (eqt (cell4 same3 k) "" ≡ false) × (choose (both quad (pairwise (cell4 same3 k))) (refused 5) (choose (both (eqt (cell4 same3 k) "vorr") (eqb n m)) (Read.two (number_of "vmov") T1 address (vec_of quad d) (vec_of quad m)) (choose (shifts_by_register o) (Read.three (number_of (cell4 same3 k)) T1 address (vec_of quad d) (vec_of quad m) (vec_of quad n)) (Read.three (number_of (cell4 same3 k)) T1 address (vec_of quad d) (vec_of quad n) (vec_of quad m)))) ≡ accepted i)
    p1 = passed (eqt (cell4 same3 k) "") 3 _ i e

    p2 : (both quad (pairwise (cell4 same3 k)) ≡ false) × (choose (both (eqt (cell4 same3 k) "vorr") (eqb n m)) (Read.two (number_of "vmov") T1 address (vec_of quad d) (vec_of quad m)) (choose (shifts_by_register o) (Read.three (number_of (cell4 same3 k)) T1 address (vec_of quad d) (vec_of quad m) (vec_of quad n)) (Read.three (number_of (cell4 same3 k)) T1 address (vec_of quad d) (vec_of quad n) (vec_of quad m))) ≡ accepted i)
    p2 = passed (both quad (pairwise (cell4 same3 k))) 5 _ i p1.1

    home : home_of (name_of (number_of (cell4 same3 k))) false ≡ Same3 k
    home = same3-home k hk p1.0

    single : both quad (pairwise (name_of (number_of (cell4 same3 k)))) ≡ false
    single = rw (← (same3-stands false (number_of (cell4 same3 k)) k home).spelled) p2.0

    go : (v s : Bool) → both (eqt (cell4 same3 k) "vorr") (eqb n m) ≡ v → shifts_by_register o ≡ s
        → choose v (Read.two (number_of "vmov") T1 address (vec_of quad d) (vec_of quad m)) (choose s (Read.three (number_of (cell4 same3 k)) T1 address (vec_of quad d) (vec_of quad m) (vec_of quad n)) (Read.three (number_of (cell4 same3 k)) T1 address (vec_of quad d) (vec_of quad n) (vec_of quad m))) ≡ accepted i
        → writing (with_mark i mark other) ≡ accepted p
    go true s ev es q =
        let t = two_operands (number_of "vmov") T1 address (vec_of quad d) (vec_of quad m) i q in
        let is = both_true (eqt (cell4 same3 k) "vorr") (eqb n m) ev in
        let here : k ≡ vorr_cell = eqb-true k vorr_cell (sym (vorr-cell k hk) ∙ is.0) in
        let equal : n ≡ m = eqb-true n m is.1 in
        rw (← t.is) (writes-vmov mark other quad d m t.a t.b hd hm t.first t.second ∙ ap accepted (rw (here, equal) at ep))
    go false true ev es q =
        let t = operands (number_of (cell4 same3 k)) T1 address (vec_of quad d) (vec_of quad m) (vec_of quad n) i q in
        rw (← t.is)
        (rw (eo, es) at (writes (number_of (cell4 same3 k)) k mark other quad d m n t.a t.b t.c hd hm hn t.first t.second t.third home single) ∙ ap accepted ep)
    go false false ev es q =
        let t = operands (number_of (cell4 same3 k)) T1 address (vec_of quad d) (vec_of quad n) (vec_of quad m) i q in
        rw (← t.is)
        (rw (eo, es) at (writes (number_of (cell4 same3 k)) k mark other quad d n m t.a t.b t.c hd hn hm t.first t.second t.third home single) ∙ ap accepted ep)

-- the fields of a pair, packed again
module _ (hw1 hw2 : ℕ) (l1 : hw1 < 65536) (l2 : hw2 < 65536) (f : SameBits hw1) where
  abbrev cell : ℕ
  cell = cell_of (bit 12 hw1) (field 11 8 hw2) (bit 4 hw2) (field 5 4 hw1)

  abbrev quad : Bool
  quad = is_set (bit 6 hw2)

  k : CellFields (bit 12 hw1) (field 11 8 hw2) (bit 4 hw2) (field 5 4 hw1)
  k = cell-fields (bit 12 hw1) (field 11 8 hw2) (bit 4 hw2) (field 5 4 hw1) (omega arith) (omega arith) (omega arith) (omega arith)

  cell-is : cell_at same3 (bit 12 hw1 * 32 + field 11 8 hw2 * 2 + bit 4 hw2) (field 5 4 hw1) ≡ cell4 same3 cell
  cell-is = rw (k.row, k.column)

  packs : same3_pair cell quad (d_of hw1 hw2) (n_of hw1 hw2) (m_of hw1 hw2) ≡ pair hw1 hw2
  unfolding same3_pair
  packs =
      rw (
        k.u-back,
        k.o-back,
        k.b-back,
        k.s-back,
        (d-fields hw1 hw2).hi-back,
        (d-fields hw1 hw2).lo_back,
        (n-fields hw1 hw2).hi-back,
        (n-fields hw1 hw2).lo_back,
        (m-fields hw1 hw2).hi-back,
        (m-fields hw1 hw2).lo_back,
        set-bit (bit 6 hw2) (omega arith),
        six hw1,
      )
      (λ i. pair (rw f.a at (first_packed hw1 l1 f.top f.middle) i) (second_packed hw2 l2 i))

  pub same3-forth : (address : ℕ) (i : Insn) (mark : Mark) (other : ℕ) → same3_reading hw1 hw2 address ≡ accepted i
      → writing (with_mark i mark other) ≡ accepted (pair hw1 hw2)
  unfolding same3_reading
  same3-forth address i mark other e =
      written-again cell (field 11 8 hw2) (d_of hw1 hw2) (n_of hw1 hw2) (m_of hw1 hw2) quad address i mark other (pair hw1 hw2) k.small
      (d-fields hw1 hw2).small (n-fields hw1 hw2).small (m-fields hw1 hw2).small k.o-back packs (rw cell-is at e)
