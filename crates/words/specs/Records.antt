-- The record that ten words stand for, whatever they are.
-- Assumes nothing.
use Rattle.std.specs.Prelude.{List, ℕ, ◌-◌, ◌%◌, ◌^◌, eqb, ltb, get_or}
use Rattle.std.specs.Float.Ieee.{of_bits}
use Rattle.std.specs.Float.{binary64}
use Rattle.laws.specs.Choice.{choose}
use Rattle.laws.specs.Signed.{twos_complement}
use Rattle.insn.specs.declared.Insn.{Insn}
use Rattle.insn.specs.declared.Mark.TheVariants.{T1, T2}
use Rattle.insn.specs.declared.Operand.{Operand}
use Rattle.insn.specs.declared.Operand.TheVariants.{D, Q, S, Imm, Float, Other, Absent}

-- a word in a field of so many bits: one that is too large stands for the largest, which no mnemonic and no count is
abbrev pub field_word : ℕ → ℕ → ℕ
field_word bits w = choose (ltb w (2 ^ bits)) w (2 ^ bits - 1)

-- a register whose number is too large, and a kind that there is not, stand for another kind of operand
unfoldable pub operand_word : ℕ → ℕ → Operand
operand_word kind value =
    choose (eqb kind 0) Absent
    (choose (eqb kind 1) (choose (ltb value 256) (D value) Other)
    (choose (eqb kind 2) (choose (ltb value 256) (Q value) Other)
    (choose (eqb kind 3) (choose (ltb value 256) (S value) Other)
    (choose (eqb kind 4) (Imm (twos_complement 64 value))
    (choose (eqb kind 5) (Float (of_bits binary64 value)) Other)))))

-- writing looks at neither address nor mark
abbrev pub record_of : List ℕ → Insn
record_of w =
    record {
      mnemonic = field_word 16 (get_or w 0 0);
      mark = choose (eqb (get_or w 1 0) 2) T2 T1;
      address = get_or w 2 0 % 2 ^ 32;
      count = field_word 8 (get_or w 3 0);
      first = operand_word (get_or w 4 0) (get_or w 5 0);
      second = operand_word (get_or w 6 0) (get_or w 7 0);
      third = operand_word (get_or w 8 0) (get_or w 9 0);
    }
