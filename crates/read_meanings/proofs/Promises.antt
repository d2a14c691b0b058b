-- Every pair that is read as a listed name has a meaning: antt computes the forms of each table's names.
-- Assumes nothing.
use mathlib.Core.Path.{◌≡◌, refl, ap, ◌∙◌}
use mathlib.Core.Bool.{Bool, true, false}
use Prim.Native.Nat.{ℕ, ◌+◌, ◌-◌, ◌*◌, ◌<◌}
use Prim.Native.String.{String}
use native.Mathlib.Omega.{arith}
use lib.Dec.{eqb, leb}
use lib.IntN.{pos}
use lib.ListN.{get_or}
use lib.Text.{eqt}
use borrow.Author.Tests.{leb-true, le-leb}
use Rattle.laws.specs.Answer.{accepted}
use Rattle.laws.specs.Choice.{choose, both}
use Rattle.laws.proofs.Range.{values, agree2}
use Rattle.laws.proofs.Never.{never, wrong}
use Rattle.insn.specs.declared.Insn.{Insn}
use Rattle.insn.specs.declared.Mark.{Mark}
use Rattle.insn.specs.declared.Mark.TheVariants.{T1}
use Rattle.insn.specs.declared.Operand.{Operand}
use Rattle.insn.specs.declared.Operand.TheVariants.{Imm}
use Rattle.tables.specs.Cells.{cell_at}
use Rattle.names.specs.Names.{names, name_of, number_of, pairwise}
use Rattle.register_tables.specs.Same3.{same3}
use Rattle.immediate_tables.specs.Shift.{shift_rows, shift_cells, shift_classes, vmovl}
use Rattle.register_tables.specs.Diff.{diff_rows, diff_cells, diff_shapes, diff_marks}
use Rattle.tables.specs.declared.ShiftClass.{ShiftClass}
use Rattle.tables.specs.declared.ShiftClass.TheVariants.{Right, Left, Narrow, Long, Convert}
use Rattle.tables.specs.declared.DiffShape.{DiffShape}
use Rattle.tables.specs.declared.DiffShape.TheVariants as shape
use Rattle.register_tables.proofs.Known.{same3-known, diff-known}
use Rattle.immediate_tables.proofs.Known.{shift-known}
use Rattle.fields.specs.Halfwords.{bit, field}
use Rattle.fields.specs.Registers.{dnum_of, bits, vec_of, vec_bits}
use Rattle.fields.proofs.Promises.{bits_of_vec}
use Rattle.amounts.proofs.Shifts.{code_lt}
use Rattle.amounts.specs.Shifts.{right_end, left_start, amount_of, size_code}
use Rattle.laws.proofs.Signed.{modulo-pos}
use Rattle.decode.specs.declared.Family.{Family}
use Rattle.decode.specs.declared.Family.TheVariants as family
use Rattle.readings.specs.Operands.{is_set, two, three}
use Rattle.read_registers.specs.Same3.{shifts_by_register, same3_of, same3_name, same3_reading}
use Rattle.read_immediates.specs.Shift.{forbidden, column_of, amount, shifted, shift_of, shift_row, shift_reading, is_long_by_zero}
use Rattle.read_registers.specs.Diff.{diff_of, diff_row, diff_reading}
use Rattle.decode.specs.Reading.{reading, family_of, in_family}
use Rattle.operations.specs.declared.BitOp.TheVariants.{Mov}
use Rattle.operations.specs.declared.Operation.{Operation}
use Rattle.operations.specs.declared.Operation.TheVariants.{Lanes, Bits as Bitwise}
use Rattle.insn.specs.declared.Width.{Width}
use Rattle.tables.specs.declared.lengths.Lengths.{Lengths}
use Rattle.lanes.specs.declared.LaneOp.TheVariants.{Shl, Shr}
use Rattle.double_lanes.specs.declared.LongOp.TheVariants as long
use Rattle.double_lanes.specs.declared.NarrowOp.TheVariants as narrow
use Rattle.double_lanes.specs.declared.DoubleOp.TheVariants as double
use Rattle.double_lanes.specs.Double.{lengths_of}
use Rattle.forms.specs.declared.Direction.{Direction}
use Rattle.forms.specs.declared.Direction.TheVariants as way
use Rattle.forms.specs.declared.Form.{Form}
use Rattle.forms.specs.declared.Form.TheVariants as form
use Rattle.forms.specs.Forms.{groups, named_forms, form_of}
use Rattle.forms.specs.Promises.{has_form, listed}
use Rattle.forms.proofs.Promises.{listed_form}
use Rattle.meanings.specs.Meaning.{Act, act, double, registers, numbers, same_lengths, on, whole_pattern, shifting, meaning_in, meaning_of}
use Rattle.meanings.proofs.Actions.{on_alike, on-lengths, same-lengths}
use Rattle.read_meanings.specs.Promises.{Meant, ReadMeant}
use Rattle.read_meanings.proofs.Constants.{constant_expands}
use Rattle.readings.proofs.Parts.{Operands, TwoOperands, operands, two_operands}
use Rattle.laws.proofs.Tests.{passed, both_true}
use Rattle.tables.specs.Lengths.{lengths, shape_lengths, class_lengths}

-- the forms of names that take three registers of one length, that lengthen, that take registers of a shape, and that shift by a number
abbrev threes : Form → Bool
threes (form.Lanes op w) = true
threes (form.Bits op) = true
threes form.Copy = false
threes (form.Shift way w) = false
threes (form.Double op w) = false
threes (form.Extend s w) = false
threes (form.Number op w) = false
threes form.Float = false
threes form.Nothing = true

abbrev extends : Form → Bool
extends (form.Extend s w) = true
extends (form.Lanes op w) = false
extends (form.Bits op) = false
extends form.Copy = false
extends (form.Shift way w) = false
extends (form.Double op w) = false
extends (form.Number op w) = false
extends form.Float = false
extends form.Nothing = true

abbrev of_shape : DiffShape → Form → Bool
of_shape k (form.Double op w) = same_lengths (shape_lengths k) (lengths_of op)
of_shape k (form.Lanes op w) = false
of_shape k (form.Bits op) = false
of_shape k form.Copy = false
of_shape k (form.Shift way w) = false
of_shape k (form.Extend s w) = false
of_shape k (form.Number op w) = false
of_shape k form.Float = false
of_shape k form.Nothing = true

-- a class whose registers have the lengths of the direction's
abbrev class_of : Direction → ShiftClass
class_of way.Left = Left
class_of (way.Right s) = Right
class_of (way.Long s) = Long
class_of way.Narrow = Narrow

abbrev same_class : ShiftClass → ShiftClass → Bool
same_class x y = both (same_lengths (class_lengths x true) (class_lengths y true)) (same_lengths (class_lengths x false) (class_lengths y false))

abbrev of_class : ShiftClass → Form → Bool
of_class k (form.Shift way w) = same_class k (class_of way)
of_class k (form.Lanes op w) = false
of_class k (form.Bits op) = false
of_class k form.Copy = false
of_class k (form.Double op w) = false
of_class k (form.Extend s w) = false
of_class k (form.Number op w) = false
of_class k form.Float = false
of_class k form.Nothing = true

same_class_lem : (x y : ShiftClass) → same_class x y ≡ true → (quad : Bool) → class_lengths x quad ≡ class_lengths y quad
same_class_lem x y e true = same-lengths (class_lengths x true) (class_lengths y true) (both_true _ _ e).0
same_class_lem x y e false = same-lengths (class_lengths x false) (class_lengths y false) (both_true (same_lengths (class_lengths x true) (class_lengths y true)) _ e).1

same3-forms : (r c : ℕ) → r < 64 → c < 4 → threes (form_of (cell_at same3 r c)) ≡ true
unfolding values same3 groups named_forms form_of
same3-forms = agree2 (λ (r c : ℕ). threes (form_of (cell_at same3 r c))) (λ (r c : ℕ). true) 64 4 refl

shift-forms : (r c : ℕ) → r < 64 → c < 4 → of_class (get_or shift_classes r Right) (form_of (cell_at shift_cells r c)) ≡ true
unfolding values shift_rows shift_cells shift_classes groups named_forms form_of
shift-forms = agree2 (λ (r c : ℕ). of_class (get_or shift_classes r Right) (form_of (cell_at shift_cells r c))) (λ (r c : ℕ). true) 64 4 refl

diff-forms : (r c : ℕ) → r < 32 → c < 4 → of_shape (get_or diff_shapes r shape.Long) (form_of (cell_at diff_cells r c)) ≡ true
unfolding values diff_rows diff_cells diff_shapes groups named_forms form_of
diff-forms = agree2 (λ (r c : ℕ). of_shape (get_or diff_shapes r shape.Long) (form_of (cell_at diff_cells r c))) (λ (r c : ℕ). true) 32 4 refl

vmovl-forms : (r c : ℕ) → r < 2 → c < 4 → extends (form_of (name_of (number_of (cell_at vmovl r c)))) ≡ true
unfolding values names name_of number_of vmovl groups named_forms form_of
vmovl-forms = agree2 (λ (r c : ℕ). extends (form_of (name_of (number_of (cell_at vmovl r c))))) (λ (r c : ℕ). true) 2 4 refl

vmov-form : form_of (name_of (number_of "vmov")) ≡ form.Copy
unfolding names name_of number_of groups named_forms form_of
vmov-form = refl

right_le : (l imm6 : ℕ) → l < 2 → imm6 < 64 → leb (amount_of Right l imm6) 64 ≡ true
unfolding values size_code right_end
right_le = agree2 (λ (l imm6 : ℕ). leb (amount_of Right l imm6) 64) (λ (l imm6 : ℕ). true) 2 64 refl

left_le : (l imm6 : ℕ) → l < 2 → imm6 < 64 → leb (amount_of Left l imm6) 64 ≡ true
unfolding values size_code left_start
left_le = agree2 (λ (l imm6 : ℕ). leb (amount_of Left l imm6) 64) (λ (l imm6 : ℕ). true) 2 64 refl

-- no amount passes 64
amount-le : (class : ShiftClass) (l imm6 : ℕ) → l < 2 → imm6 < 64 → leb (amount_of class l imm6) 64 ≡ true
amount-le Right l imm6 hl hi = right_le l imm6 hl hi
amount-le Narrow l imm6 hl hi = right_le l imm6 hl hi
amount-le Left l imm6 hl hi = left_le l imm6 hl hi
amount-le Long l imm6 hl hi = left_le l imm6 hl hi
amount-le Convert l imm6 hl hi = le-leb (64 - imm6) 64 (omega arith)

column-lt : (class : ShiftClass) (l imm6 : ℕ) → l < 2 → imm6 < 64 → column_of class l imm6 < 4
unfolding column_of
column-lt Right l imm6 hl hi = code_lt l imm6
column-lt Left l imm6 hl hi = code_lt l imm6
column-lt Narrow l imm6 hl hi = code_lt l imm6
column-lt Long l imm6 hl hi = code_lt l imm6
column-lt Convert l imm6 hl hi = omega arith

-- what a shift is on registers of its lengths
shift-act : (way : Direction) (w : Width) (k : ℕ) (a b : Operand) (quad : Bool) (d m : ℕ)
    → vec_bits a ≡ accepted (bits (class_lengths (class_of way) quad).d d) → vec_bits b ≡ accepted (bits (class_lengths (class_of way) quad).m m)
    → (x : Act) × (shifting way w k a b ≡ accepted x)
shift-act way.Left w k a b quad d m ea eb = (_, on_alike (Lanes (Shl k) w) a b b quad d m m ea eb eb)
shift-act (way.Right s) w k a b quad d m ea eb = (_, on_alike (Lanes (Shr s k) w) a b b quad d m m ea eb eb)
shift-act (way.Long s) w k a b quad d m ea eb = (_, on-lengths (double.Long (long.Shl k) s) w a b b (class_lengths Long quad) d m m ea eb eb refl)
shift-act way.Narrow w k a b quad d m ea eb = (_, on-lengths (double.Narrow (narrow.Shr k)) w a b b (class_lengths Narrow quad) d m m ea eb eb refl)

-- a listed mnemonic has a form
module _ (i : Insn) (is-listed : listed i.mnemonic ≡ true) where
  formed : (m : ℕ) → m ≡ i.mnemonic → has_form (form_of (name_of m)) ≡ true
  formed m e = listed_form m ∙ ap listed e ∙ is-listed

  -- three registers of one size
  registers-meant : (name : String) (mark : Mark) (address : ℕ) (quad : Bool) (d n m : ℕ) → d < 32 → n < 32 → m < 32
      → name_of (number_of name) ≡ name → threes (form_of name) ≡ true
      → three (number_of name) mark address (vec_of quad d) (vec_of quad n) (vec_of quad m) ≡ accepted i → Meant i
  unfolding meaning_of meaning_in
  registers-meant name mark address quad d n m hd hn hm spelt t e =
      go (form_of name) refl t (rw spelt at (formed (number_of name) (ap (λ (j : Insn). j.mnemonic) r.is)))
    where
      r : Operands (vec_of quad d) (vec_of quad n) (vec_of quad m) i (number_of name) mark address
      r = operands (number_of name) mark address (vec_of quad d) (vec_of quad n) (vec_of quad m) i e

      acts : (op : Operation) → on op r.a r.b r.c ≡ accepted (act op (registers quad d n m))
      acts op =
          on_alike op r.a r.b r.c quad d n m
          (bits_of_vec quad d r.a hd r.first) (bits_of_vec quad n r.b hn r.second) (bits_of_vec quad m r.c hm r.third)

      go : (f : Form) → form_of name ≡ f → threes f ≡ true → has_form f ≡ true → Meant i
      go (form.Lanes op w) f u h = record { does = act (Lanes op w) (registers quad d n m); meant = rw (← r.is, spelt, f) (acts (Lanes op w)) }
      go (form.Bits op) f u h = record { does = act (Bitwise op) (registers quad d n m); meant = rw (← r.is, spelt, f) (acts (Bitwise op)) }
      go form.Copy f u h = wrong u
      go (form.Shift way w) f u h = wrong u
      go (form.Double op w) f u h = wrong u
      go (form.Extend s w) f u h = wrong u
      go (form.Number op w) f u h = wrong u
      go form.Float f u h = wrong u
      go form.Nothing f u h = wrong h

  -- a copy
  copy-meant : (address : ℕ) (quad : Bool) (d m : ℕ) → d < 32 → m < 32
      → two (number_of "vmov") T1 address (vec_of quad d) (vec_of quad m) ≡ accepted i → Meant i
  unfolding meaning_of meaning_in
  copy-meant address quad d m hd hm e =
      let r = two_operands (number_of "vmov") T1 address (vec_of quad d) (vec_of quad m) i e in
      let b = bits_of_vec quad m r.b hm r.second in
      record {
        does = act (Bitwise Mov) (registers quad d m m);
        meant = rw (← r.is, vmov-form) (on_alike (Bitwise Mov) r.a r.b r.b quad d m m (bits_of_vec quad d r.a hd r.first) b b);
      }

  -- two registers of a class and an amount
  shift-meant : (name : String) (class : ShiftClass) (address : ℕ) (quad : Bool) (k d m : ℕ) → d < 32 → m < 32 → leb k 64 ≡ true
      → name_of (number_of name) ≡ name → of_class class (form_of name) ≡ true
      → three (number_of name) T1 address (vec_of (class_lengths class quad).d d) (vec_of (class_lengths class quad).m m) (amount k) ≡ accepted i → Meant i
  unfolding meaning_of meaning_in whole_pattern
  shift-meant name class address quad k d m hd hm small spelt t e =
      go (form_of name) refl t (rw spelt at (formed (number_of name) (ap (λ (j : Insn). j.mnemonic) r.is)))
    where
      l : Lengths
      l = class_lengths class quad

      r : Operands (vec_of l.d d) (vec_of l.m m) (amount k) i (number_of name) T1 address
      r = operands (number_of name) T1 address (vec_of l.d d) (vec_of l.m m) (amount k) i e

      number : r.c ≡ Imm (pos k)
      number = let t = r.third in cc

      as-act : (way : Direction) (w : Width) → form_of name ≡ form.Shift way w → (x : Act) → shifting way w k r.a r.b ≡ accepted x → Meant i
      as-act way w f x e = record { does = x; meant = rw (← r.is, number, spelt, f, modulo-pos 64 k (omega (arith, leb-true k 64 small)), small) e }

      go : (f : Form) → form_of name ≡ f → of_class class f ≡ true → has_form f ≡ true → Meant i
      go (form.Shift way w) f u h =
          let same = same_class_lem class (class_of way) u quad in
          let x = shift-act way w k r.a r.b quad d m
          (bits_of_vec l.d d r.a hd r.first ∙ ap (λ (l : Lengths). accepted (bits l.d d)) same)
          (bits_of_vec l.m m r.b hm r.second ∙ ap (λ (l : Lengths). accepted (bits l.m m)) same) in
          as-act way w f x.0 x.1
      go (form.Lanes op w) f u h = wrong u
      go (form.Bits op) f u h = wrong u
      go form.Copy f u h = wrong u
      go (form.Double op w) f u h = wrong u
      go (form.Extend s w) f u h = wrong u
      go (form.Number op w) f u h = wrong u
      go form.Float f u h = wrong u
      go form.Nothing f u h = wrong h

  -- a lengthening by 0
  extend-meant : (name : String) (address d m : ℕ) → d < 32 → m < 32 → extends (form_of (name_of (number_of name))) ≡ true
      → two (number_of name) T1 address (vec_of true d) (vec_of false m) ≡ accepted i → Meant i
  unfolding meaning_of meaning_in
  extend-meant name address d m hd hm t e = go (form_of (name_of (number_of name))) refl t (formed (number_of name) (ap (λ (j : Insn). j.mnemonic) r.is))
    where
      r : TwoOperands (vec_of true d) (vec_of false m) i (number_of name) T1 address
      r = two_operands (number_of name) T1 address (vec_of true d) (vec_of false m) i e

      go : (f : Form) → form_of (name_of (number_of name)) ≡ f → extends f ≡ true → has_form f ≡ true → Meant i
      go (form.Extend s w) f u h =
          let b = bits_of_vec false m r.b hm r.second in
          record {
            does = double (double.Long long.Mov s) w (numbers d m m);
            meant = rw (← r.is, f) (on-lengths (double.Long long.Mov s) w r.a r.b r.b (lengths true false false) d m m (bits_of_vec true d r.a hd r.first) b b refl);
          }
      go (form.Lanes op w) f u h = wrong u
      go (form.Bits op) f u h = wrong u
      go form.Copy f u h = wrong u
      go (form.Shift way w) f u h = wrong u
      go (form.Double op w) f u h = wrong u
      go (form.Number op w) f u h = wrong u
      go form.Float f u h = wrong u
      go form.Nothing f u h = wrong h

  same3-meant : (name : String) (quad : Bool) (opc d n m address : ℕ) → d < 32 → n < 32 → m < 32
      → name_of (number_of name) ≡ name → threes (form_of name) ≡ true → same3_of name quad opc d n m address ≡ accepted i → Meant i
  unfolding same3_of
  same3-meant name quad opc d n m address hd hn hm spelt t e =
      let p = passed (eqt name "") 3 _ i e in
      let q = passed (both quad (pairwise name)) 5 _ i p.1 in
      branch (both (eqt name "vorr") (eqb n m)) (shifts_by_register opc) q.1
    where
      branch : (u v : Bool)
          → choose u (two (number_of "vmov") T1 address (vec_of quad d) (vec_of quad m))
          (choose v (three (number_of name) T1 address (vec_of quad d) (vec_of quad m) (vec_of quad n))
          (three (number_of name) T1 address (vec_of quad d) (vec_of quad n) (vec_of quad m))) ≡ accepted i → Meant i
      branch true v f = copy-meant address quad d m hd hm f
      branch false true f = registers-meant name T1 address quad d m n hd hm hn spelt t f
      branch false false f = registers-meant name T1 address quad d n m hd hn hm spelt t f

  shifted-meant : (class : ShiftClass) (name moved : String) (quad : Bool) (k d m address : ℕ) → d < 32 → m < 32 → leb k 64 ≡ true
      → name_of (number_of name) ≡ name → of_class class (form_of name) ≡ true → extends (form_of (name_of (number_of moved))) ≡ true
      → shifted class (number_of name) (number_of moved) quad k d m address ≡ accepted i → Meant i
  unfolding shifted is_long_by_zero
  shifted-meant Right name moved quad k d m address hd hm s spelt t v e = shift-meant name Right address quad k d m hd hm s spelt t e
  shifted-meant Left name moved quad k d m address hd hm s spelt t v e = shift-meant name Left address quad k d m hd hm s spelt t e
  shifted-meant Narrow name moved quad k d m address hd hm s spelt t v e = shift-meant name Narrow address quad k d m hd hm s spelt t e
  shifted-meant Convert name moved quad k d m address hd hm s spelt t v e = shift-meant name Convert address quad k d m hd hm s spelt t e
  shifted-meant Long name moved quad k d m address hd hm s spelt t v e = go (eqb k 0) e
    where
      go : (b : Bool)
          → choose b (two (number_of moved) T1 address (vec_of true d) (vec_of false m))
          (three (number_of name) T1 address (vec_of true d) (vec_of false m) (amount k)) ≡ accepted i → Meant i
      go true f = extend-meant moved address d m hd hm v f
      go false f = shift-meant name Long address quad k d m hd hm s spelt t f

  row-meant : (class : ShiftClass) (u row : ℕ) (quad : Bool) (l imm6 d m address : ℕ) → u < 2 → row < 64 → l < 2 → imm6 < 64 → d < 32 → m < 32
      → get_or shift_classes row Right ≡ class → shift_of class u row quad l imm6 d m address ≡ accepted i → Meant i
  unfolding shift_of
  row-meant class u row quad l imm6 d m address hu hr hl hi hd hm s e =
      let c = column_of class l imm6 in
      let hc = column-lt class l imm6 hl hi in
      let p = passed (forbidden class l imm6) 2 _ i e in
      let q = passed (eqt (cell_at shift_cells row c) "") 3 _ i p.1 in
      shifted-meant class (cell_at shift_cells row c) (cell_at vmovl u c) quad (amount_of class l imm6) d m address hd hm (amount-le class l imm6 hl hi)
      (shift-known row c hr hc) (rw s at (shift-forms row c hr hc)) (vmovl-forms u c hu hc) q.1

  -- three registers of a shape
  diff-meant : (name : String) (k : DiffShape) (mark : Mark) (d n m address : ℕ) → d < 32 → n < 32 → m < 32
      → name_of (number_of name) ≡ name → of_shape k (form_of name) ≡ true → diff_of name k mark d n m address ≡ accepted i → Meant i
  unfolding diff_of meaning_of meaning_in
  diff-meant name k mark d n m address hd hn hm spelt t e =
      go (form_of name) refl t (rw spelt at (formed (number_of name) (ap (λ (j : Insn). j.mnemonic) r.is)))
    where
      l : Lengths
      l = shape_lengths k

      r : Operands (vec_of l.d d) (vec_of l.n n) (vec_of l.m m) i (number_of name) mark address
      r = operands (number_of name) mark address (vec_of l.d d) (vec_of l.n n) (vec_of l.m m) i (passed (eqt name "") 3 _ i e).1

      go : (f : Form) → form_of name ≡ f → of_shape k f ≡ true → has_form f ≡ true → Meant i
      go (form.Double op w) f u h =
          record {
            does = double op w (numbers d n m);
            meant = rw (← r.is, spelt, f) (on-lengths op w r.a r.b r.c l d n m
                (bits_of_vec l.d d r.a hd r.first) (bits_of_vec l.n n r.b hn r.second) (bits_of_vec l.m m r.c hm r.third) u);
          }
      go (form.Lanes op w) f u h = wrong u
      go (form.Bits op) f u h = wrong u
      go form.Copy f u h = wrong u
      go (form.Shift way w) f u h = wrong u
      go (form.Extend s w) f u h = wrong u
      go (form.Number op w) f u h = wrong u
      go form.Float f u h = wrong u
      go form.Nothing f u h = wrong h

pub read_meant : ReadMeant
unfolding reading in_family same3_reading shift_reading diff_reading
read_meant hw1 hw2 address i e h = go (family_of hw1 hw2) refl e
  where
    go : (f : Family) → family_of hw1 hw2 ≡ f → in_family f hw1 hw2 address ≡ accepted i → Meant i
    go family.ThreeSame k f =
        let r = bit 12 hw1 * 32 + field 11 8 hw2 * 2 + bit 4 hw2 in
        let known = same3-known r (field 5 4 hw1) (omega arith) (omega arith) in
        same3-meant i h (same3_name hw1 hw2) (is_set (bit 6 hw2)) (field 11 8 hw2)
        (dnum_of (bit 6 hw1) (field 15 12 hw2)) (dnum_of (bit 7 hw2) (field 3 0 hw1)) (dnum_of (bit 5 hw2) (field 3 0 hw2)) address
        (omega arith) (omega arith) (omega arith) known (same3-forms r (field 5 4 hw1) (omega arith) (omega arith)) f
    go family.Shift k f =
        row-meant i h (get_or shift_classes (shift_row hw1 hw2) Right) (bit 12 hw1) (shift_row hw1 hw2) (is_set (bit 6 hw2)) (bit 7 hw2) (field 5 0 hw1)
        (dnum_of (bit 6 hw1) (field 15 12 hw2)) (dnum_of (bit 5 hw2) (field 3 0 hw2)) address
        (omega arith) (omega arith) (omega arith) (omega arith) (omega arith) (omega arith) refl f
    go family.ThreeDifferent k f =
        let r = diff_row hw1 hw2 in
        let c = field 5 4 hw1 in
        diff-meant i h (cell_at diff_cells r c) (get_or diff_shapes r shape.Long) (get_or diff_marks r T1)
        (dnum_of (bit 6 hw1) (field 15 12 hw2)) (dnum_of (bit 7 hw2) (field 3 0 hw1)) (dnum_of (bit 5 hw2) (field 3 0 hw2)) address
        (omega arith) (omega arith) (omega arith) (diff-known r c (omega arith) (omega arith)) (diff-forms r c (omega arith) (omega arith)) f
    go family.ModifiedImmediate k f = let x = constant_expands hw1 hw2 address i k e in record { does = _; meant = x.meant }
    go family.NoFamily k f = never (cc)
