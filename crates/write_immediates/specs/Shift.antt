-- Writing two registers and a shift amount: A7.4.4, table A7-12.
-- Assumes nothing.
use Rattle.std.specs.Prelude.{Bool, ℕ, ◌/◌, eqb, pos, get_or}
use Rattle.laws.specs.Answer.{Answer, accepted, refused, and_then}
use Rattle.laws.specs.Choice.{choose}
use Rattle.insn.specs.declared.Operand.{Operand}
use Rattle.insn.specs.declared.Operand.TheVariants.{Imm}
use Rattle.immediate_tables.specs.Shift.{shift_classes}
use Rattle.tables.specs.declared.ShiftClass.{ShiftClass}
use Rattle.tables.specs.declared.ShiftClass.TheVariants.{Right, Left, Narrow, Long, Convert}
use Rattle.fields.specs.Halfwords.{bit, field, first, second}
use Rattle.amount_values.specs.Amounts.{amount_in}
use Rattle.writings.specs.Forms.{Pair, pair, cell_of, as_bit, is_quad, register_in, Three, all_three, numbers}
use Rattle.tables.specs.Lengths.{class_lengths}

-- the cell is U:A:B:size, the amount L:imm6; b is the bit at B; d and m are D:Vd and M:Vm
--   hw1  1 1 1 U 1 1 1 1 1 D imm6         hw2  Vd A L B M 1 Vm
unfoldable pub shift_pair : ℕ → ℕ → ℕ → ℕ → ℕ → Pair
shift_pair cell b amount d m =
    pair
    (first (bit 7 cell) 1 (bit 4 d) (field 5 0 amount))
    (second (field 3 0 d) (field 6 3 cell) (bit 6 amount) b (bit 4 m) 1 (field 3 0 m))

-- the bit at B: Q where the registers are alike, else the row's own
abbrev pub bit_b : ShiftClass → Bool → ℕ → ℕ
bit_b Right quad cell = as_bit quad
bit_b Left quad cell = as_bit quad
bit_b Narrow quad cell = bit 2 cell
bit_b Long quad cell = bit 2 cell
bit_b Convert quad cell = as_bit quad

abbrev pub shift_form : ShiftClass → ℕ → Bool → Three → Answer Pair
shift_form class cell quad (numbers d m amount) = accepted (shift_pair cell (bit_b class quad cell) amount d m)

unfoldable pub shift_classed : ShiftClass → ℕ → ℕ → Operand → Operand → Operand → Answer Pair
shift_classed class cell count a b c =
    choose (eqb count 3)
    (and_then (all_three (register_in (class_lengths class (is_quad a)).d a) (register_in (class_lengths class (is_quad a)).m b) (amount_in class (field 1 0 cell) c))
    (shift_form class cell (is_quad a)))
    (refused 8)

abbrev pub shift_writing : ℕ → ℕ → Operand → Operand → Operand → Answer Pair
shift_writing cell count a b c = shift_classed (get_or shift_classes (cell / 4) Right) cell count a b c

-- VSHLL stands at A=1010 B=0, with its own U and size; VMOVL, in the cell U:size of its names, is VSHLL by 0
abbrev pub vshll_cell : ℕ → ℕ
vshll_cell cell = cell_of (bit 2 cell) 0b1010 0 (field 1 0 cell)

unfoldable pub vmovl_writing : ℕ → ℕ → Operand → Operand → Answer Pair
vmovl_writing cell count a b = choose (eqb count 2) (shift_writing (vshll_cell cell) 3 a b (Imm (pos 0))) (refused 8)
