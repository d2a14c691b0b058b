-- Values that have a place: 1 for every cell of A7-12 that is not blank, 0 for every such cell of VMOVL, imm8 = 1 for every such cell of A7-14.
-- Assumes nothing.
use mathlib.Core.Path.{◌≡◌, refl, sym, ap, ◌∙◌}
use mathlib.Core.Bool.{true, false}
use Prim.Native.Nat.{ℕ, ◌+◌, ◌*◌, ◌/◌, ◌%◌, ◌<◌}
use native.Mathlib.Omega.{arith}
use lib.Ieee.{fits}
use lib.IntN.{pos}
use lib.Text.{eqt}
use Rattle.laws.specs.Answer.{Answer, accepted, refused}
use Rattle.laws.specs.Choice.{choose}
use Rattle.laws.specs.Signed.{twos_complement}
use Rattle.laws.proofs.Range.{values, agree}
use Rattle.laws.proofs.Never.{wrong}
use Rattle.insn.specs.declared.Operand.{Operand}
use Rattle.insn.specs.declared.Operand.TheVariants.{Imm}
use Rattle.names.specs.Names.{name_of, number_of}
use Rattle.names.proofs.Promises.{numbers_back}
use Rattle.tables.proofs.Cells.{cell4, cell16}
use Rattle.immediate_tables.specs.Shift.{shift_rows, shift_cells, shift_classes, vmovl}
use Rattle.immediate_tables.specs.Modimm.{modimm}
use Rattle.homes.proofs.Cells.{Stands, filled, class_at}
use Rattle.fields.specs.Halfwords.{field}
use Rattle.floats.specs.Floats.{float_of}
use Rattle.immediates.specs.Modified.{constant_at, element, operand_in}
use Rattle.amount_values.specs.Amounts.{amount_in}
use Rattle.amount_values.proofs.Amounts.{tests, amount-place}
use Rattle.immediate_values.specs.Immediates.{immediate_in}
use Rattle.immediate_values.proofs.Immediates.{op, cmode, imm8}
use Rattle.write_immediates.specs.Shift.{vshll_cell}
use Rattle.encode.specs.Promises.{is_accepted}
use Rattle.trips.proofs.RoundModimm.{place-again}
use Rattle.trips.proofs.Values.{has64_bits}

has-place : (x y : Answer ℕ) → is_accepted x ≡ true → x ≡ y → (t : ℕ) × (y ≡ accepted t)
has-place (accepted t) y e q = (t, sym q)
has-place (refused n) y e q = wrong e

one_accepted : (k : ℕ) → k < 256 → eqt (cell4 shift_cells k) "" ≡ false → is_accepted (tests (class_at k) (field 1 0 k) 1) ≡ true
unfolding values shift_rows shift_cells shift_classes
one_accepted k h e =
    rw e at (agree (λ (k : ℕ). choose (eqt (cell4 shift_cells k) "") true (is_accepted (tests (class_at k) (field 1 0 k) 1))) (λ (k : ℕ). true) 256 refl k h)

zero-accepted : (k : ℕ) → k < 8 → eqt (cell4 vmovl k) "" ≡ false → is_accepted (tests (class_at (vshll_cell k)) (field 1 0 (vshll_cell k)) 0) ≡ true
unfolding values shift_rows shift_classes vmovl
zero-accepted k h e =
    rw e at
    (agree (λ (k : ℕ). choose (eqt (cell4 vmovl k) "") true (is_accepted (tests (class_at (vshll_cell k)) (field 1 0 (vshll_cell k)) 0))) (λ (k : ℕ). true) 8 refl k h)

pub one-amount : (k : ℕ) → k < 256 → eqt (cell4 shift_cells k) "" ≡ false → (t : ℕ) × (amount_in (class_at k) (field 1 0 k) (Imm (pos 1)) ≡ accepted t)
one-amount k h e =
    has-place _ _ (one_accepted k h e) (amount-place (class_at k) (field 1 0 k) 1 (omega arith) (omega arith))

pub zero-amount : (k : ℕ) → k < 8 → eqt (cell4 vmovl k) "" ≡ false
    → (t : ℕ) × (amount_in (class_at (vshll_cell k)) (field 1 0 (vshll_cell k)) (Imm (pos 0)) ≡ accepted t)
zero-amount k h e =
    let j = vshll_cell k in
    has-place _ _ (zero-accepted k h e) (amount-place (class_at j) (field 1 0 j) 0 (omega arith) (omega arith))

-- what imm8 = 1 stands for in a cell of A7-14
abbrev pub one : ℕ → Operand
one k = operand_in (constant_at (k / 16) (k % 16)) 1

pub one-held : (k : ℕ) → k < 32 → eqt (cell16 modimm k) "" ≡ false → has64_bits (one k) ≡ true
unfolding values modimm constant_at operand_in element twos_complement float_of fits
one-held k h e = rw e at (agree (λ (k : ℕ). choose (eqt (cell16 modimm k) "") true (has64_bits (one k))) (λ (k : ℕ). true) 32 refl k h)

pub one-immediate : (m k : ℕ) → Stands m k 32 (cell16 modimm) → immediate_in (name_of m) (one k) ≡ accepted (k * 256 + 1)
one-immediate m k st =
    let t = k * 256 + 1 in
    let h = st.within in
    let row : t / 256 ≡ k = omega arith in
    let its-op : op t ≡ k / 16 = omega arith in
    let its-cmode : cmode t ≡ k % 16 = omega arith in
    let its-imm8 : imm8 t ≡ 1 = omega arith in
    let name : name_of (number_of (cell16 modimm (t / 256))) ≡ name_of m = ap name_of (ap (λ (r : ℕ). number_of (cell16 modimm r)) row ∙ ap number_of st.spelled ∙ numbers_back m st.known) in
    rw (name, its-op, its-cmode, its-imm8) at (place-again t (omega arith) (rw row (filled st)) (rw its-imm8))
