-- The constant of a modified-immediate pair is AdvSIMDExpandImm's pattern: antt computes it at every op, cmode and imm8 of a number, and VMOV.F32 by a law.
-- Assumes nothing.
use mathlib.Core.Path.{◌≡◌, refl, sym, ap, ◌∙◌}
use mathlib.Core.Bool.{Bool, true, false, not}
use mathlib.Core.List.{List, [], ◌∷◌}
use Prim.Native.Nat.{ℕ, ◌+◌, ◌*◌, ◌/◌, ◌%◌, ◌<◌}
use native.Mathlib.Omega.{arith}
use lib.Dec.{eqb}
use lib.ListN.{get_or}
use lib.Text.{eqt}
use borrow.Author.Tests.{eqb-true}
use Rattle.laws.specs.Answer.{Answer, accepted, refused, and_then}
use Rattle.laws.specs.Choice.{choose, both}
use Rattle.laws.specs.Signed.{twos_complement, modulo}
use Rattle.laws.proofs.Range.{values, agree2}
use Rattle.laws.proofs.Never.{wrong}
use Rattle.insn.specs.declared.Insn.{Insn}
use Rattle.insn.specs.declared.Mark.TheVariants.{T1}
use Rattle.insn.specs.declared.Operand.{Operand}
use Rattle.insn.specs.declared.Operand.TheVariants.{Absent}
use Rattle.tables.specs.Cells.{cell_at}
use Rattle.immediate_tables.specs.Modimm.{modimm}
use Rattle.names.specs.Names.{names, name_of, number_of}
use Rattle.fields.specs.Halfwords.{bit, field}
use Rattle.fields.specs.Registers.{dnum_of, bits, vec_of, vec_bits}
use Rattle.fields.proofs.Promises.{bits_of_vec}
use Rattle.floats.specs.Floats.{float_bits}
use Rattle.immediates.proofs.Defined.{is_undefined, not-refused}
use Rattle.immediates.specs.Modified.{constant_at, element, copies, pattern_in, expand_imm, operand_in, modimm_operand, needs_nonzero}
use Rattle.floats.proofs.Found.{back_found}
use Rattle.read_immediates.specs.Modimm.{modimm_of, imm8_of, modimm_reading}
use Rattle.readings.specs.Operands.{is_set, insn}
use Rattle.decode.specs.Reading.{reading, in_family}
use Rattle.insn.specs.declared.Width.{Width}
use Rattle.insn.specs.declared.Width.TheVariants.{B8, B16, B32, B64}
use Rattle.operations.specs.declared.ConstantOp.{ConstantOp}
use Rattle.operations.specs.declared.ConstantOp.TheVariants.{Mov, Mvn, Orr, Bic}
use Rattle.operations.specs.declared.Operation.TheVariants.{Constant}
use Rattle.forms.specs.declared.Form.{Form}
use Rattle.forms.specs.declared.Form.TheVariants as form
use Rattle.read_meanings.specs.Constants.{Expands, ConstantExpands}
use Rattle.forms.specs.Forms.{groups, named_forms, form_of}
use Rattle.meanings.specs.Meaning.{whole_pattern, float_pattern, repeated, meaning_in, meaning_of}
use Rattle.meanings.proofs.Actions.{on_alike}
use Rattle.laws.proofs.Tests.{passed}
use Rattle.readings.proofs.Parts.{two_operands}

-- the forms of table A7-14
forms : List (List Form)
forms =
    (form.Number Mov B32 ∷ form.Number Orr B32 ∷ form.Number Mov B32 ∷ form.Number Orr B32
    ∷ form.Number Mov B32 ∷ form.Number Orr B32 ∷ form.Number Mov B32 ∷ form.Number Orr B32
    ∷ form.Number Mov B16 ∷ form.Number Orr B16 ∷ form.Number Mov B16 ∷ form.Number Orr B16
    ∷ form.Number Mov B32 ∷ form.Number Mov B32 ∷ form.Number Mov B8 ∷ form.Float ∷ []) ∷
    (form.Number Mvn B32 ∷ form.Number Bic B32 ∷ form.Number Mvn B32 ∷ form.Number Bic B32
    ∷ form.Number Mvn B32 ∷ form.Number Bic B32 ∷ form.Number Mvn B32 ∷ form.Number Bic B32
    ∷ form.Number Mvn B16 ∷ form.Number Bic B16 ∷ form.Number Mvn B16 ∷ form.Number Bic B16
    ∷ form.Number Mvn B32 ∷ form.Number Mvn B32 ∷ form.Number Mov B64 ∷ form.Nothing ∷ []) ∷
    []

form_at : ℕ → ℕ → Form
form_at o c = get_or (get_or forms o []) c form.Nothing

name-form : (o c : ℕ) → o < 2 → c < 16 → form_of (cell_at modimm o c) ≡ form_at o c
unfolding values modimm groups named_forms form_of forms form_at
name-form = agree2 (λ (o c : ℕ). form_of (cell_at modimm o c)) form_at 2 16 refl

number-form : (o c : ℕ) → o < 2 → c < 16 → form_of (name_of (number_of (cell_at modimm o c))) ≡ form_at o c
unfolding values modimm names name_of number_of groups named_forms form_of forms form_at
number-form = agree2 (λ (o c : ℕ). form_of (name_of (number_of (cell_at modimm o c)))) form_at 2 16 refl

-- a cell that is not blank has a form with a constant, and the float's is row 15
abbrev constant : Form → Bool
constant (form.Number op w) = true
constant form.Float = true
constant (form.Lanes op w) = false
constant (form.Bits op) = false
constant form.Copy = false
constant (form.Shift way w) = false
constant (form.Double op w) = false
constant (form.Extend s w) = false
constant form.Nothing = false

abbrev is_float : Form → Bool
is_float (form.Number op w) = false
is_float form.Float = true
is_float (form.Lanes op w) = false
is_float (form.Bits op) = false
is_float form.Copy = false
is_float (form.Shift way w) = false
is_float (form.Double op w) = false
is_float (form.Extend s w) = false
is_float form.Nothing = false

filled : (o c : ℕ) → o < 2 → c < 16 → constant (form_at o c) ≡ not (eqt (cell_at modimm o c) "")
unfolding values modimm forms form_at
filled = agree2 (λ (o c : ℕ). constant (form_at o c)) (λ (o c : ℕ). not (eqt (cell_at modimm o c) "")) 2 16 refl

float-row : (o c : ℕ) → o < 2 → c < 16 → is_float (form_at o c) ≡ eqb (o * 16 + c) 15
unfolding values forms form_at
float-row = agree2 (λ (o c : ℕ). is_float (form_at o c)) (λ (o c : ℕ). eqb (o * 16 + c) 15) 2 16 refl

-- the pattern of a number, by its form
abbrev numbered : Form → Operand → Answer ℕ
numbered (form.Number op w) x = and_then (whole_pattern x) (λ (p : ℕ). accepted (repeated w p))
numbered form.Float x = refused 3
numbered (form.Lanes op w) x = refused 3
numbered (form.Bits op) x = refused 3
numbered form.Copy x = refused 3
numbered (form.Shift way w) x = refused 3
numbered (form.Double op w) x = refused 3
numbered (form.Extend s w) x = refused 3
numbered form.Nothing x = refused 3

abbrev is_number : Form → Bool
is_number (form.Number op w) = true
is_number form.Float = false
is_number (form.Lanes op w) = false
is_number (form.Bits op) = false
is_number form.Copy = false
is_number (form.Shift way w) = false
is_number (form.Double op w) = false
is_number (form.Extend s w) = false
is_number form.Nothing = false

-- at each of the 8192
number-cells : (k b : ℕ) → k < 32 → b < 256
    → numbered (form_at (k / 16) (k % 16)) (modimm_operand (k / 16) (k % 16) b)
    ≡ choose (is_number (form_at (k / 16) (k % 16))) (expand_imm (k / 16) (k % 16) b) (refused 3)
unfolding values forms form_at constant_at element operand_in pattern_in modulo whole_pattern repeated twos_complement
number-cells =
    agree2 (λ (k b : ℕ). numbered (form_at (k / 16) (k % 16)) (modimm_operand (k / 16) (k % 16) b))
    (λ (k b : ℕ). choose (is_number (form_at (k / 16) (k % 16))) (expand_imm (k / 16) (k % 16) b) (refused 3)) 32 256 refl

number-cell : (o c b : ℕ) → o < 2 → c < 16 → b < 256
    → numbered (form_at o c) (modimm_operand o c b) ≡ choose (is_number (form_at o c)) (expand_imm o c b) (refused 3)
number-cell o c b ho hc hb =
    let e1 : (o * 16 + c) / 16 ≡ o = omega arith in
    let e2 : (o * 16 + c) % 16 ≡ c = omega arith in
    rw (e1, e2) at (number-cells (o * 16 + c) b (omega arith) hb)

-- a row that is not blank is defined
defined : (o c : ℕ) → o < 2 → c < 16 → is_undefined (constant_at o c) ≡ not (constant (form_at o c))
unfolding values forms form_at constant_at
defined = agree2 (λ (o c : ℕ). is_undefined (constant_at o c)) (λ (o c : ℕ). not (constant (form_at o c))) 2 16 refl

-- VMOV.F32's pattern
float-expands : (b : ℕ) → expand_imm 0 15 b ≡ accepted (copies 2 32 (float_bits b))
unfolding constant_at pattern_in element
float-expands b = refl

float-pattern : (b : ℕ) → b < 256 → float_pattern (modimm_operand 0 15 b) ≡ accepted (copies 2 32 (float_bits b))
unfolding constant_at float_pattern operand_in
float-pattern b h = rw (back_found b h)

-- the record of a cell
module _ (o c b : ℕ) (quad : Bool) (d address : ℕ) (ho : o < 2) (hc : c < 16) (hb : b < 256) where
  cell-record : (a : Operand) → vec_bits a ≡ accepted (bits quad d) → eqt (cell_at modimm o c) "" ≡ false
      → Expands o c b quad d (insn (number_of (cell_at modimm o c)) T1 address 2 a (modimm_operand o c b) Absent)
  unfolding meaning_of meaning_in
  cell-record a e named = go (form_at o c) refl
    where
      full : constant (form_at o c) ≡ true
      full = filled o c ho hc ∙ ap not named

      whole : (op : ConstantOp) (w : Width) → form_at o c ≡ form.Number op w → (x : Answer ℕ) → whole_pattern (modimm_operand o c b) ≡ x
          → and_then x (λ (p : ℕ). accepted (repeated w p)) ≡ expand_imm o c b
          → Expands o c b quad d (insn (number_of (cell_at modimm o c)) T1 address 2 a (modimm_operand o c b) Absent)
      whole op w f (accepted p) x q =
          record {
            pattern = repeated w p;
            expanded = sym q;
            meant = rw (number-form o c ho hc, name-form o c ho hc, f, x) (on_alike (Constant op (repeated w p)) a a a quad d d d e e e);
          }
      whole op w f (refused n) x q = absurd (not-refused (constant_at o c) b n (defined o c ho hc ∙ ap not full) (sym q))

      go : (f : Form) → form_at o c ≡ f → Expands o c b quad d (insn (number_of (cell_at modimm o c)) T1 address 2 a (modimm_operand o c b) Absent)
      go (form.Number op w) f = whole op w f (whole_pattern (modimm_operand o c b)) refl (rw f at (number-cell o c b ho hc hb))
      go form.Float f =
          let k : o * 16 + c ≡ 15 = eqb-true (o * 16 + c) 15 (sym (float-row o c ho hc) ∙ ap is_float f) in
          let zo : o ≡ 0 = omega arith in
          let zc : c ≡ 15 = omega arith in
          record {
            pattern = copies 2 32 (float_bits b);
            expanded = rw (zo, zc) (float-expands b);
            meant =
                rw (number-form o c ho hc, name-form o c ho hc, f, zo, zc, float-pattern b hb)
                (on_alike (Constant Mov (copies 2 32 (float_bits b))) a a a quad d d d e e e);
          }
      go (form.Lanes op w) f = wrong (sym (ap constant f) ∙ full)
      go (form.Bits op) f = wrong (sym (ap constant f) ∙ full)
      go form.Copy f = wrong (sym (ap constant f) ∙ full)
      go (form.Shift way w) f = wrong (sym (ap constant f) ∙ full)
      go (form.Double op w) f = wrong (sym (ap constant f) ∙ full)
      go (form.Extend s w) f = wrong (sym (ap constant f) ∙ full)
      go form.Nothing f = wrong (sym (ap constant f) ∙ full)

  -- what is read of a cell
  pub cell-expands : (i : Insn) → d < 32 → modimm_of o c b quad d address ≡ accepted i → Expands o c b quad d i
  unfolding modimm_of
  cell-expands i hd e =
      let p1 = passed (eqt (cell_at modimm o c) "") 3 _ i e in
      let p2 = passed (both (eqb b 0) (needs_nonzero c)) 4 _ i p1.1 in
      let r = two_operands (number_of (cell_at modimm o c)) T1 address (vec_of quad d) (accepted (modimm_operand o c b)) i p2.1 in
      let value : modimm_operand o c b ≡ r.b = cc r.second in
      rw (← r.is, ← value) (cell-record r.a (bits_of_vec quad d r.a hd r.first) p1.0)

pub constant_expands : ConstantExpands
unfolding reading in_family modimm_reading
constant_expands hw1 hw2 address i family e =
    cell-expands (bit 5 hw2) (field 11 8 hw2) (imm8_of hw1 hw2) (is_set (bit 6 hw2)) (dnum_of (bit 6 hw1) (field 15 12 hw2)) address
    (omega arith) (omega arith) (omega arith) i (omega arith) (rw family at e)
