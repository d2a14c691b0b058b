-- A record at the C boundary: ten words of 64 bits.
-- Assumes nothing.
use Rattle.std.specs.Prelude.{List, [], ◌∷◌, ℕ}
use Rattle.std.specs.Float.Ieee.{to_bits}
use Rattle.std.specs.Float.{binary64}
use Rattle.insn.specs.declared.Insn.{Insn}
use Rattle.insn.specs.declared.Mark.{Mark}
use Rattle.insn.specs.declared.Mark.TheVariants.{T1, T2}
use Rattle.insn.specs.declared.Operand.{Operand}
use Rattle.insn.specs.declared.Operand.TheVariants.{D, Q, S, Imm, Float, Other, Absent}
use Rattle.laws.specs.Signed.{modulo}

abbrev pub mark_word : Mark → ℕ
mark_word T1 = 1
mark_word T2 = 2

abbrev pub kind_word : Operand → ℕ
kind_word Absent = 0
kind_word (D n) = 1
kind_word (Q n) = 2
kind_word (S n) = 3
kind_word (Imm v) = 4
kind_word (Float x) = 5
kind_word Other = 6

-- a register's number, a whole number's two's complement, a float's IEEE 754 bits
abbrev pub value_word : Operand → ℕ
value_word Absent = 0
value_word (D n) = n
value_word (Q n) = n
value_word (S n) = n
value_word (Imm v) = modulo 64 v
value_word (Float x) = to_bits binary64 x
value_word Other = 0

-- mnemonic, mark, address, count, then kind and value of each place
abbrev pub record_words : Insn → List ℕ
record_words i =
    i.mnemonic ∷ mark_word i.mark ∷ i.address ∷ i.count
    ∷ kind_word i.first ∷ value_word i.first
    ∷ kind_word i.second ∷ value_word i.second
    ∷ kind_word i.third ∷ value_word i.third
    ∷ []
