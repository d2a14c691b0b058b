-- For the contracts of this crate's building blocks, and of those that call them, alone.
-- Assumes nothing.
use Rattle.std.specs.Prelude.{true, ◌≡◌, ℕ, ◌+◌, ◌*◌, ◌/◌, ◌%◌, ◌<◌, eqb, ltb}
use Prim.Native.String.{String}
use Rattle.laws.specs.Choice.{choose}
use Rattle.insn.specs.declared.Operand.{Operand}
use Rattle.fields.specs.Halfwords.{bit, field}
use Rattle.immediate_values.specs.Immediates.{immediate_reads}

-- the lowest bit of each of two bytes, of four, and of a pattern's eight
abbrev pub two_bits : ℕ → ℕ
two_bits p = p % 2 + p / 0x100 % 2 * 2

abbrev pub four_bits : ℕ → ℕ
four_bits p = two_bits p + two_bits (p / 0x1_0000) * 4

abbrev pub byte_bits : ℕ → ℕ
byte_bits p = four_bits p + four_bits (p / 0x1_0000_0000) * 16

-- where a 16-bit pattern would stand, and a 32-bit one, from a name's first place on
abbrev pub halfword_offset : ℕ → ℕ
halfword_offset p = choose (ltb p 0x100) p (0x200 + p / 0x100 % 256)

abbrev pub word_offset : ℕ → ℕ
word_offset p =
    choose (ltb p 0x100) p
    (choose (ltb p 0x1_0000) (choose (eqb (p % 0x100) 0) 0x200 0xc00 + p / 0x100)
    (choose (ltb p 0x100_0000) (choose (eqb (p % 0x1_0000) 0) 0x400 0xd00 + p / 0x1_0000)
    (0x600 + p / 0x100_0000 % 256)))

-- no place op:cmode:imm8 but t is read so
abbrev pub OnlyPlace : String → Operand → ℕ → Type 0
OnlyPlace name value t = (u : ℕ) → u < 8192 → immediate_reads name value (bit 12 u) (field 11 8 u) (field 7 0 u) ≡ true → u ≡ t
