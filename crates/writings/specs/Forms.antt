-- What the places of a record hold, as a mnemonic's form asks.
-- Assumes nothing.
use Rattle.std.specs.Prelude.{Bool, true, false, not, ℕ, ◌+◌, ◌*◌}
use Rattle.laws.specs.Answer.{Answer, accepted, refused}
use Rattle.laws.specs.Choice.{choose}
use Rattle.insn.specs.declared.Operand.{Operand}
use Rattle.insn.specs.declared.Operand.TheVariants.{D, Q, S, Imm, Float as Real, Other, Absent}
use Rattle.insn.specs.Record.{value_or}
use Rattle.fields.specs.Registers.{Bits, bits, vec_bits}

-- a pair: hw1, then hw2
pub data Pair : Type 0 where
  pair : ℕ → ℕ → Pair

-- a cell of a table with four columns, from its fields U, opc or A, B and size
abbrev pub cell_of : ℕ → ℕ → ℕ → ℕ → ℕ
cell_of u opc b size = u * 128 + opc * 8 + b * 4 + size

abbrev pub as_bit : Bool → ℕ
as_bit true = 1
as_bit false = 0

-- where the registers are of one length, it is that of the first
abbrev pub is_quad : Operand → Bool
is_quad (D n) = false
is_quad (Q n) = true
is_quad (S n) = false
is_quad (Imm v) = false
is_quad (Real x) = false
is_quad Other = false
is_quad Absent = false

abbrev pub is_number : Operand → Bool
is_number o = value_or (λ v. true) (λ x. false) false o

abbrev pub of_length : Bool → Answer Bits → Answer ℕ
of_length quad (accepted (bits q d)) = choose (choose quad q (not q)) (accepted d) (refused 8)
of_length quad (refused n) = refused n

-- the number of a register where the form asks for a quadword, Q0 to Q15, or a doubleword, D0 to D31
unfoldable pub register_in : Bool → Operand → Answer ℕ
register_in quad reg = of_length quad (vec_bits reg)

-- what three operands stand for; the first that is refused refuses them all
pub data Three : Type 0 where
  numbers : ℕ → ℕ → ℕ → Three

unfoldable pub all_three : Answer ℕ → Answer ℕ → Answer ℕ → Answer Three
all_three (accepted a) (accepted b) (accepted c) = accepted (numbers a b c)
all_three (accepted a) (accepted b) (refused n) = refused n
all_three (accepted a) (refused n) z = refused n
all_three (refused n) y z = refused n
