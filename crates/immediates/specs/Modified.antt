-- Modified immediates: table A7-15, and AdvSIMDExpandImm.
-- op is hw2 bit 5, cmode is hw2 bits 11..8; imm8, with the bits abcdefgh, is hw1 bit 12, hw1 bits 2..0 and hw2 bits 3..0.
-- Assumes nothing.
use Rattle.std.specs.Prelude.{Bool, true, false, List, [], ◌∷◌, ◌++◌, ℕ, zero, suc, ◌+◌, ◌-◌, ◌*◌, ◌/◌, ◌%◌, ◌^◌, eqb, pos, get_or}
use Rattle.laws.specs.Answer.{Answer, accepted, refused}
use Rattle.laws.specs.Choice.{both}
use Rattle.laws.specs.Signed.{twos_complement}
use Rattle.insn.specs.declared.Operand.{Operand}
use Rattle.insn.specs.declared.Operand.TheVariants.{Imm, Float, Absent}
use Rattle.floats.specs.Floats.{float_of, float_bits}

-- a row's constant:
pub data Constant : Type 0 where
  -- imm8 in an element of so many bits, at a place, with so many ones below it
  byte : (bits place ones : ℕ) → Constant
  -- each bit of imm8 as a whole byte
  each_bit : Constant
  -- a single-precision float
  float : Constant
  undefined : Constant

-- table A7-15, by cmode: the rows that op does not change
abbrev pub either_op : List Constant
either_op =
    byte 32 0 0 ∷  -- 0000  00000000 00000000 00000000 abcdefgh
    byte 32 0 0 ∷  -- 0001
    byte 32 8 0 ∷  -- 0010  00000000 00000000 abcdefgh 00000000
    byte 32 8 0 ∷  -- 0011
    byte 32 16 0 ∷  -- 0100  00000000 abcdefgh 00000000 00000000
    byte 32 16 0 ∷  -- 0101
    byte 32 24 0 ∷  -- 0110  abcdefgh 00000000 00000000 00000000
    byte 32 24 0 ∷  -- 0111
    byte 16 0 0 ∷  -- 1000  00000000 abcdefgh
    byte 16 0 0 ∷  -- 1001
    byte 16 8 0 ∷  -- 1010  abcdefgh 00000000
    byte 16 8 0 ∷  -- 1011
    byte 32 8 8 ∷  -- 1100  00000000 00000000 abcdefgh 11111111
    byte 32 16 16 ∷  -- 1101  00000000 abcdefgh 11111111 11111111
    []

-- and those that it does
abbrev pub a7-15 : List (List Constant)
a7-15 =
    (either_op ++ (byte 8 0 0 ∷  -- op=0 1110  abcdefgh
    float ∷  -- op=0 1111  aBbbbbbc defgh000 00000000 00000000
    [])) ∷
    (either_op ++ (each_bit ∷  -- op=1 1110  aaaaaaaa bbbbbbbb cccccccc dddddddd eeeeeeee ffffffff gggggggg hhhhhhhh
    undefined ∷  -- op=1 1111
    [])) ∷
    []

unfoldable pub constant_at : ℕ → ℕ → Constant
constant_at op cmode = get_or (get_or a7-15 op []) cmode undefined

-- each of the lowest n bits of b as a byte, the lowest first
abbrev pub bytes_of : ℕ → ℕ → ℕ
bytes_of zero b = 0
bytes_of (suc n) b = b % 2 * 255 + 2 ^ 8 * bytes_of n (b / 2)

-- the constant before it is repeated
unfoldable pub element : Constant → ℕ → ℕ
element (byte bits place ones) b = b * 2 ^ place + (2 ^ ones - 1)
element each_bit b = bytes_of 8 b
element float b = float_bits b
element undefined b = 0

-- n copies of an element of w bits, side by side
abbrev pub copies : ℕ → ℕ → ℕ → ℕ
copies zero w e = 0
copies (suc n) w e = e + 2 ^ w * copies n w e

-- AdvSIMDExpandImm: the 64-bit pattern; the undefined row is a blank cell
unfoldable pub pattern_in : Constant → ℕ → Answer ℕ
pattern_in (byte bits place ones) b = accepted (copies (64 / bits) bits (element (byte bits place ones) b))
pattern_in each_bit b = accepted (element each_bit b)
pattern_in float b = accepted (copies 2 32 (element float b))
pattern_in undefined b = refused 3

abbrev pub expand_imm : ℕ → ℕ → ℕ → Answer ℕ
expand_imm op cmode b = pattern_in (constant_at op cmode) b

-- the operand that the assembler writes: the element as a number, the 64-bit pattern as a signed one, or the float
unfoldable pub operand_in : Constant → ℕ → Operand
operand_in (byte bits place ones) b = Imm (pos (element (byte bits place ones) b))
operand_in each_bit b = Imm (twos_complement 64 (element each_bit b))
operand_in float b = Float (float_of b)
operand_in undefined b = Absent

abbrev pub modimm_operand : ℕ → ℕ → ℕ → Operand
modimm_operand op cmode b = operand_in (constant_at op cmode) b

-- a zero imm8 is refused when cmode >> 1 is 1, 2, 3, 5 or 6
unfoldable pub needs_nonzero : ℕ → Bool
needs_nonzero cmode = get_or (false ∷ true ∷ true ∷ true ∷ false ∷ true ∷ true ∷ []) (cmode / 2) false

abbrev pub zero_refused : ℕ → ℕ → Bool
zero_refused cmode imm8 = both (eqb imm8 0) (needs_nonzero cmode)
