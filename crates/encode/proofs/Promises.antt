-- The promise of specs/Promises.antt.
-- Assumes nothing.
use mathlib.Core.Path.{◌≡◌, refl, sym, ap, ◌∙◌}
use mathlib.Core.Bool.{true, false}
use Prim.Native.Nat.{ℕ, ◌+◌, ◌*◌, ◌<◌}
use native.Mathlib.Omega.{arith}
use lib.Arith.{digits_div}
use lib.IntN.{ℤ}
use lib.ListN.{get_or}
use lib.Text.{eqt}
use Rattle.laws.specs.Answer.{Answer, accepted, refused, and_then}
use Rattle.laws.specs.Choice.{choose, both}
use Rattle.laws.proofs.Never.{wrong}
use Rattle.laws.proofs.Tests.{sides}
use Rattle.insn.specs.Record.{place_at}
use Rattle.insn.specs.declared.Operand.{Operand}
use Rattle.insn.specs.declared.Operand.TheVariants.{Imm}
use Rattle.names.specs.Names.{name_of}
use Rattle.names.proofs.Known.{unnamed, number-of}
use Rattle.tables.specs.Cells.{cell_at}
use Rattle.tables.specs.Lengths.{class_lengths}
use Rattle.tables.specs.declared.ShiftClass.{ShiftClass}
use Rattle.tables.specs.declared.ShiftClass.TheVariants.{Right}
use Rattle.tables.proofs.Cells.{cell4, flat-cell}
use Rattle.immediate_tables.specs.Shift.{shift_cells, shift_classes}
use Rattle.homes.specs.Home.{home_of}
use Rattle.homes.specs.declared.Home.TheVariants.{Shift}
use Rattle.homes.proofs.Cells.{first_cell, class_at, first-class, shift-home}
use Rattle.fields.specs.Halfwords.{field}
use Rattle.writings.specs.Forms.{Pair, Three, is_quad, all_three}
use Rattle.writings.proofs.Only.{RefusedOnly, register-eight}
use Rattle.amount_values.specs.Range.{is_outside}
use Rattle.amount_values.proofs.Amounts.{outside_nine}
use Rattle.write_immediates.specs.Shift.{shift_form, shift_classed}
use Rattle.encode.specs.Writing.{writing}
use Rattle.encode.specs.Promises.{is_accepted, registers_fit, OutsideRefused}

-- with an amount that is refused with 9, all three are refused with 9 where the registers fit, else with 8
all-refused : (x y : Answer ℕ) (f : Three → Answer Pair) → RefusedOnly 8 x → RefusedOnly 8 y → and_then (all_three x y (refused 9)) f ≡ refused (choose (both (is_accepted x) (is_accepted y)) 9 8)
unfolding all_three
all-refused (accepted a) (accepted b) f ex ey = refl
all-refused (accepted a) (refused n) f ex ey = ap refused ey
all-refused (refused n) y f ex ey = ap refused ex

classed-outside : (class : ShiftClass) (cell : ℕ) (a b : Operand) (v : ℤ) → is_outside v ≡ true → shift_classed class cell 3 a b (Imm v) ≡ refused (choose (registers_fit class a b) 9 8)
unfolding shift_classed
classed-outside class cell a b v out =
    rw (outside_nine class (field 1 0 cell) v out)
    (all-refused _ _ (shift_form class cell (is_quad a)) (register-eight (class_lengths class (is_quad a)).d a) (register-eight (class_lengths class (is_quad a)).m b))

-- a name that is not blank is a mnemonic's
known : (m : ℕ) → eqt (name_of m) "" ≡ false → m < 346
known m e = sides 346 m (λ h. h) (λ h. wrong (sym e ∙ unnamed m h))

pub outside_refused : OutsideRefused
unfolding writing place_at
outside_refused i row column v hr hc name filled three third out =
    rw (three, third, home) (classed-outside (class_at cell) cell i.first i.second v out ∙ ap (λ (class : ShiftClass). refused (choose (registers_fit class i.first i.second) 9 8)) class-is)
  where
    k : ℕ
    k = row * 4 + column

    cell : ℕ
    cell = first_cell (class_at k) k

    its-cell : cell4 shift_cells k ≡ cell_at shift_cells row column
    its-cell = flat-cell shift_cells 4 row column hc

    filled-k : eqt (cell4 shift_cells k) "" ≡ false
    filled-k = rw its-cell filled

    home : home_of (name_of i.mnemonic) true ≡ Shift cell
    home = rw (number-of i.mnemonic (cell4 shift_cells k) (known i.mnemonic (rw name filled)) (name ∙ sym its-cell)) at (shift-home k (omega arith) filled-k)

    class-is : class_at cell ≡ get_or shift_classes row Right
    class-is = first-class k (omega arith) filled-k ∙ ap (λ (r : ℕ). get_or shift_classes r Right) (digits_div row hc)
