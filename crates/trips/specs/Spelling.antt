-- What of a record a pair carries: the mnemonic and the operands.
-- Assumes nothing.
use Rattle.std.specs.Prelude.{Bool, true, false, not, ◌≡◌, ℕ, eqb, pos}
use Rattle.std.specs.Bool.{beq}
use Prim.Native.String.{String}
use Rattle.std.specs.Float.{binary64}
use Rattle.std.specs.Float.Ieee.{fits}
use lib.Text.{eqt}
use Rattle.laws.specs.Answer.{Answer, accepted, refused}
use Rattle.laws.specs.Choice.{choose, both}
use Rattle.insn.specs.declared.Insn.{Insn}
use Rattle.insn.specs.declared.Mark.{Mark}
use Rattle.insn.specs.declared.Operand.{Operand}
use Rattle.insn.specs.declared.Operand.TheVariants.{D, Q, S, Imm, Float as Real, Other, Absent}
use Rattle.insn.specs.Record.{place_at, value_or}
use Rattle.names.specs.Names.{name_of, number_of}
use Rattle.fields.specs.Registers.{Bits, bits, vec_bits}
use Rattle.readings.specs.Operands.{insn}
use Rattle.writings.specs.Numbers.{same_number}

pub record Spelling : Type 0 where
  pub mnemonic : ℕ
  pub count : ℕ
  pub first : Operand
  pub second : Operand
  pub third : Operand

-- places past the count are absent
abbrev pub spelling : Insn → Spelling
spelling i = record { mnemonic = i.mnemonic; count = i.count; first = place_at i 0; second = place_at i 1; third = place_at i 2 }

-- the record of a spelling
abbrev pub spelled : Spelling → Mark → ℕ → Insn
spelled s mark address = insn s.mnemonic mark address s.count s.first s.second s.third

-- the same record with another mark and address
abbrev pub with_mark : Insn → Mark → ℕ → Insn
with_mark i mark address =
    record { mnemonic = i.mnemonic; mark = mark; address = address; count = i.count; first = i.first; second = i.second; third = i.third }

-- the same register: of one length, and one number
abbrev pub same_bits : Answer Bits → Answer Bits → Bool
same_bits (accepted (bits p m)) (accepted (bits q n)) = both (beq p q) (eqb m n)
same_bits (accepted (bits p m)) (refused n) = false
same_bits (refused n) y = false

abbrev pub same_register : Operand → Operand → Bool
same_register x y = same_bits (vec_bits x) (vec_bits y)

abbrev pub is_zero : Operand → Bool
is_zero o = value_or (λ v. same_number v (pos 0)) (λ x. false) false o

-- VMOVL for VSHLL; "" for any other name
abbrev pub moved_name : String → String
moved_name name =
    choose (eqt name "vshll.s8") "vmovl.s8"
    (choose (eqt name "vshll.s16") "vmovl.s16"
    (choose (eqt name "vshll.s32") "vmovl.s32"
    (choose (eqt name "vshll.u8") "vmovl.u8"
    (choose (eqt name "vshll.u16") "vmovl.u16"
    (choose (eqt name "vshll.u32") "vmovl.u32" "")))))

-- another name, and the first two operands alone
abbrev pub renamed : String → Spelling → Spelling
renamed name s = record { mnemonic = number_of name; count = 2; first = s.first; second = s.second; third = Absent }

-- three operands: VORR with equal sources
abbrev pub is_move : Spelling → Bool
is_move s = both (eqb s.count 3) (both (eqt (name_of s.mnemonic) "vorr") (same_register s.second s.third))

-- three operands: VSHLL by 0
abbrev pub is_long_move : Spelling → Bool
is_long_move s = both (eqb s.count 3) (both (not (eqt (moved_name (name_of s.mnemonic)) "")) (is_zero s.third))

-- VORR with equal sources is read as VMOV, and VSHLL by 0 as VMOVL; anything else is read as it is spelled
unfoldable pub canonical : Spelling → Spelling
canonical s = choose (is_move s) (renamed "vmov" s) (choose (is_long_move s) (renamed (moved_name (name_of s.mnemonic)) s) s)

-- a place that holds what the code's types can: a float has 64 bits
abbrev pub Held : Operand → Type 0
Held (Real x) = fits binary64 x ≡ true
Held (D n) = Unit {0}
Held (Q n) = Unit {0}
Held (S n) = Unit {0}
Held (Imm v) = Unit {0}
Held Other = Unit {0}
Held Absent = Unit {0}
