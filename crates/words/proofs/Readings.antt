-- What is read has each field in its bits.
-- Assumes nothing.
use mathlib.Core.Path.{◌≡◌, refl, subst}
use mathlib.Core.Bool.{Bool, true, false}
use mathlib.Core.List.{List, [], ◌∷◌}
use Prim.Native.Nat.{ℕ, suc, ◌+◌, ◌*◌, ◌/◌, ◌%◌, ◌^◌, ◌<◌, ◌≤◌}
use Prim.Native.String.{String}
use native.Mathlib.Omega.{arith}
use lib.Arith.{digits_div, digits_mod}
use lib.Dec.{eqb, ltb}
use lib.Ieee.{fits, binary64}
use lib.IntN.{pos}
use lib.ListN.{length}
use lib.Signed.{mag}
use lib.Text.{eqt}
use borrow.Author.Tests.{ltb-true}
use Rattle.laws.specs.Answer.{Answer, accepted, refused}
use Rattle.laws.specs.Choice.{choose, both}
use Rattle.laws.specs.Signed.{twos_complement}
use Rattle.laws.proofs.Never.{wrong}
use Rattle.laws.proofs.Range.{values, agree2}
use Rattle.insn.specs.declared.Insn.{Insn}
use Rattle.insn.specs.declared.Mark.{Mark}
use Rattle.insn.specs.declared.Mark.TheVariants.{T1}
use Rattle.insn.specs.declared.Operand.{Operand}
use Rattle.insn.specs.declared.Operand.TheVariants.{D, Q, S, Imm, Float, Other, Absent}
use Rattle.tables.specs.Cells.{cell_at}
use Rattle.immediate_tables.specs.Modimm.{modimm}
use Rattle.names.specs.Names.{names, number_of, pairwise, place}
use Rattle.immediate_tables.specs.Shift.{shift_cells, vmovl}
use Rattle.tables.specs.declared.DiffShape.{DiffShape}
use Rattle.tables.specs.declared.ShiftClass.{ShiftClass}
use Rattle.tables.specs.declared.ShiftClass.TheVariants.{Right, Left, Narrow, Long, Convert}
use Rattle.names.proofs.Promises.{names_counted}
use Rattle.fields.specs.Registers.{vec_of}
use Rattle.floats.specs.Floats.{float_of}
use Rattle.immediates.specs.Modified.{constant_at, element, operand_in, modimm_operand, needs_nonzero}
use Rattle.amounts.specs.Shifts.{right_end, amount_of, size_code}
use Rattle.read_registers.specs.Diff.{diff_of, diff_reading}
use Rattle.read_immediates.specs.Modimm.{modimm_of, modimm_reading}
use Rattle.readings.specs.Operands.{insn, two, three}
use Rattle.decode.specs.Reading.{reading, family_of, in_family}
use Rattle.read_registers.specs.Same3.{shifts_by_register, same3_of, same3_reading}
use Rattle.read_immediates.specs.Shift.{forbidden, column_of, shift_of, shifted, shift_reading, is_long_by_zero}
use Rattle.decode.specs.declared.Family.{Family}
use Rattle.decode.specs.declared.Family.TheVariants as family
use Rattle.words.specs.Promises.{OperandFits, RecordFits}
use Rattle.tables.specs.Lengths.{shape_lengths, class_lengths}

-- an answer that has a value has one that fits
data Placed : Answer Operand → Type 0 where
  there : {o : Operand} → OperandFits o → Placed (accepted o)
  none : {n : ℕ} → Placed (refused n)

data Answers : Answer Insn → Type 0 where
  fit : {i : Insn} → RecordFits i → Answers (accepted i)
  none : {n : ℕ} → Answers (refused n)

record_of : (i : Insn) → Answers (accepted i) → RecordFits i
record_of i (fit f) = f

either : (b : Bool) {x y : Answer Insn} → Answers x → Answers y → Answers (choose b x y)
either true fx fy = fx
either false fx fy = fy

-- a mnemonic's number
smaller : (b : Bool) (m n : ℕ) → m < 65536 → n < 65536 → choose b m n < 65536
smaller true m n hm hn = hm
smaller false m n hm hn = hn

placed : (s : String) (n : ℕ) (l : List String) → n + length l ≤ 65536 → place s n l < 65536
placed s n [] h = omega arith
placed s n (x ∷ l) h = smaller (eqt x s) n (place s (suc n) l) (omega arith) (placed s (suc n) l (omega arith))

numbered : (s : String) → number_of s < 65536
unfolding number_of
numbered s = placed s 0 names (omega (arith, names_counted))

-- registers and amounts
even : (b : Bool) (n : ℕ) → n < 32 → Placed (choose b (accepted (Q n)) (refused 6))
even true n h = there {o = Q n} (omega arith)
even false n h = none

vec : (quad : Bool) (d : ℕ) → d < 32 → Placed (vec_of quad d)
unfolding vec_of
vec true d h = even (eqb (d % 2) 0) (d / 2) (omega arith)
vec false d h = there {o = D d} (omega arith)

rights : (l imm6 : ℕ) → l < 2 → imm6 < 64 → ltb (amount_of Right l imm6) 65 ≡ true
unfolding values right_end size_code
rights = agree2 (λ (l imm6 : ℕ). ltb (amount_of Right l imm6) 65) (λ (l imm6 : ℕ). true) 2 64 refl

amounts : (class : ShiftClass) (l imm6 : ℕ) → l < 2 → imm6 < 64 → amount_of class l imm6 < 65
amounts Right l imm6 hl hi = ltb-true (amount_of Right l imm6) 65 (rights l imm6 hl hi)
amounts Narrow l imm6 hl hi = ltb-true (amount_of Right l imm6) 65 (rights l imm6 hl hi)
amounts Left l imm6 hl hi = omega arith
amounts Long l imm6 hl hi = omega arith
amounts Convert l imm6 hl hi = omega arith

number : (k : ℕ) → k < 65 → Placed (accepted (Imm (pos k)))
number k h = there {o = Imm (pos k)} (omega arith)

-- immediates, all of them at once
abbrev small : Operand → Bool
small Absent = true
small (D n) = false
small (Q n) = false
small (S n) = false
small (Imm v) = ltb (mag v) (2 ^ 63)
small (Float x) = fits binary64 x
small Other = true

as-small : (o : Operand) → small o ≡ true → OperandFits o
as-small Absent e = tt
as-small (D n) e = wrong e
as-small (Q n) e = wrong e
as-small (S n) e = wrong e
as-small (Imm v) e = ltb-true (mag v) (2 ^ 63) e
as-small (Float x) e = e
as-small Other e = tt

immediates : (row b : ℕ) → row < 32 → b < 256 → small (modimm_operand (row / 16) (row % 16) b) ≡ true
unfolding values constant_at element operand_in twos_complement float_of fits
immediates = agree2 (λ (row b : ℕ). small (modimm_operand (row / 16) (row % 16) b)) (λ (row b : ℕ). true) 32 256 refl

immediate : (op cmode b : ℕ) → op < 2 → cmode < 16 → b < 256 → OperandFits (modimm_operand op cmode b)
immediate op cmode b ho hc hb =
    as-small (modimm_operand op cmode b)
    (rw (digits_div op hc, digits_mod op hc) at (immediates (op * 16 + cmode) b (omega arith) hb))

module _ (address : ℕ) (ha : address < 2 ^ 32) where
  twice : (mark : Mark) {m : ℕ} {x y : Answer Operand} → m < 65536 → Placed x → Placed y → Answers (two m mark address x y)
  unfolding two
  twice mark {m = m} hm (there {o = x} fx) (there {o = y} fy) =
      fit {i = insn m mark address 2 x y Absent} (record { mnemonic = hm; address = ha; count = omega arith; first = fx; second = fy; third = tt })
  twice mark hm (there fx) none = none
  twice mark hm none fy = none

  thrice : (mark : Mark) {m : ℕ} {x y z : Answer Operand} → m < 65536 → Placed x → Placed y → Placed z → Answers (three m mark address x y z)
  unfolding three
  thrice mark {m = m} hm (there {o = x} fx) (there {o = y} fy) (there {o = z} fz) =
      fit {i = insn m mark address 3 x y z} (record { mnemonic = hm; address = ha; count = omega arith; first = fx; second = fy; third = fz })
  thrice mark hm (there fx) (there fy) none = none
  thrice mark hm (there fx) none fz = none
  thrice mark hm none fy fz = none

  same : (name : String) (quad : Bool) (opc d n m : ℕ) → d < 32 → n < 32 → m < 32 → Answers (same3_of name quad opc d n m address)
  unfolding same3_of
  same name quad opc d n m hd hn hm =
      either (eqt name "") none
      (either (both quad (pairwise name)) none
      (either (both (eqt name "vorr") (eqb n m)) (twice T1 (numbered "vmov") (vec quad d hd) (vec quad m hm))
      (either (shifts_by_register opc) (thrice T1 (numbered name) (vec quad d hd) (vec quad m hm) (vec quad n hn))
      (thrice T1 (numbered name) (vec quad d hd) (vec quad n hn) (vec quad m hm)))))

  different : (name : String) (s : DiffShape) (mark : Mark) (d n m : ℕ) → d < 32 → n < 32 → m < 32 → Answers (diff_of name s mark d n m address)
  unfolding diff_of
  different name s mark d n m hd hn hm =
      let quad = shape_lengths s in
      either (eqt name "") none (thrice mark (numbered name) (vec quad.d d hd) (vec quad.n n hn) (vec quad.m m hm))

  by-class : (class : ShiftClass) {m moved : ℕ} (quad : Bool) (k d v : ℕ) → m < 65536 → moved < 65536 → k < 65 → d < 32 → v < 32
      → Answers (shifted class m moved quad k d v address)
  unfolding shifted
  by-class class q k d v hm hv hk hd hn =
      let quad = class_lengths class q in
      either (is_long_by_zero class k) (twice T1 hv (vec quad.d d hd) (vec quad.m v hn))
      (thrice T1 hm (vec quad.d d hd) (vec quad.m v hn) (number k hk))

  shift : (class : ShiftClass) (u row : ℕ) (quad : Bool) (l imm6 d m : ℕ) → l < 2 → imm6 < 64 → d < 32 → m < 32
      → Answers (shift_of class u row quad l imm6 d m address)
  unfolding shift_of
  shift class u row quad l imm6 d m hl hi hd hm =
      let column = column_of class l imm6 in
      either (forbidden class l imm6) none
      (either (eqt (cell_at shift_cells row column) "") none
      (by-class class quad (amount_of class l imm6) d m (numbered (cell_at shift_cells row column)) (numbered (cell_at vmovl u column))
      (amounts class l imm6 hl hi) hd hm))

  modified : (op cmode imm8 : ℕ) (quad : Bool) (d : ℕ) → op < 2 → cmode < 16 → imm8 < 256 → d < 32 → Answers (modimm_of op cmode imm8 quad d address)
  unfolding modimm_of
  modified op cmode imm8 quad d ho hc hb hd =
      let name = cell_at modimm op cmode in
      either (eqt name "") none
      (either (both (eqb imm8 0) (needs_nonzero cmode)) none (twice T1 (numbered name) (vec quad d hd) (there (immediate op cmode imm8 ho hc hb))))

  in-family : (f : Family) (hw1 hw2 : ℕ) → Answers (in_family f hw1 hw2 address)
  unfolding in_family same3_reading diff_reading shift_reading modimm_reading
  in-family family.ThreeSame hw1 hw2 = same _ _ _ _ _ _ (omega arith) (omega arith) (omega arith)
  in-family family.ThreeDifferent hw1 hw2 = different _ _ _ _ _ _ (omega arith) (omega arith) (omega arith)
  in-family family.Shift hw1 hw2 = shift _ _ _ _ _ _ _ _ (omega arith) (omega arith) (omega arith) (omega arith)
  in-family family.ModifiedImmediate hw1 hw2 = modified _ _ _ _ _ (omega arith) (omega arith) (omega arith) (omega arith)
  in-family family.NoFamily hw1 hw2 = none

  pub reading-fits : (hw1 hw2 : ℕ) (i : Insn) → reading hw1 hw2 address ≡ accepted i → RecordFits i
  unfolding reading
  reading-fits hw1 hw2 i e = record_of i (subst Answers e (in-family (family_of hw1 hw2) hw1 hw2))
