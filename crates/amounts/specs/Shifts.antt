-- Shift amounts: A7.4.4 and the pages of the shifts. L is hw2 bit 7, imm6 is hw1 bits 5..0.
-- Assumes nothing.
use Rattle.std.specs.Prelude.{Bool, ℕ, ◌-◌, ◌*◌, eqb}
use Rattle.laws.specs.Choice.{choose, both}
use Rattle.insn.specs.Widths.{bits_at}
use Rattle.fields.specs.Halfwords.{bit, field}
use Rattle.tables.specs.declared.ShiftClass.{ShiftClass}
use Rattle.tables.specs.declared.ShiftClass.TheVariants.{Right, Left, Narrow, Long, Convert}

-- L:imm6<5:3> all zero encodes no element size: such a pair is a modified-immediate one
unfoldable pub is_escape : ℕ → ℕ → Bool
is_escape l imm6 = both (eqb l 0) (eqb (field 5 3 imm6) 0)

-- the element's size, 0 to 3 for 8 to 64 bits, by the highest set bit of L:imm6<5:3>
unfoldable pub size_code : ℕ → ℕ → ℕ
size_code l imm6 = choose (eqb l 0) (choose (eqb (bit 5 imm6) 1) 2 (choose (eqb (bit 4 imm6) 1) 1 0)) 3

-- a right shift counts down from twice the element's bits, and from 64 where L is set
unfoldable pub right_end : ℕ → ℕ → ℕ
right_end l imm6 = choose (eqb l 0) (2 * bits_at (size_code l imm6)) 64

-- a left shift counts up from the element's bits, and from 0 where L is set
unfoldable pub left_start : ℕ → ℕ → ℕ
left_start l imm6 = choose (eqb l 0) (bits_at (size_code l imm6)) 0

-- the amount; narrowing rows shift right, lengthening ones left, and a conversion has its fraction's bits
abbrev pub amount_of : ShiftClass → ℕ → ℕ → ℕ
amount_of Right l imm6 = right_end l imm6 - imm6
amount_of Narrow l imm6 = right_end l imm6 - imm6
amount_of Left l imm6 = imm6 - left_start l imm6
amount_of Long l imm6 = imm6 - left_start l imm6
amount_of Convert l imm6 = 64 - imm6
