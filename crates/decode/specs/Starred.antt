-- The starred pairs of document 01, 'Pairs to check', each with its reading.
-- Assumes nothing.
use Rattle.std.specs.Prelude.{false, List, [], ◌∷◌, map, ◌≡◌, ℕ, pos, negsuc, get_or, length}
use Prim.Native.String.{String}
use Rattle.std.specs.Float.Ieee.{odd}
use Rattle.laws.specs.Answer.{Answer, accepted, refused}
use Rattle.insn.specs.declared.Insn.{Insn}
use Rattle.insn.specs.declared.Mark.TheVariants.{T1}
use Rattle.insn.specs.declared.Operand.{Operand}
use Rattle.insn.specs.declared.Operand.TheVariants.{D, Q, Imm, Float, Absent}
use Rattle.names.specs.Names.{number_of}
use Rattle.readings.specs.Operands.{insn}
use Rattle.decode.specs.Reading.{reading}

-- what a pair reads as: a name and its operands, or a refusal
pub data Reads : Type 0 where
  says : String → List Operand → Reads
  refusal : ℕ → Reads

pub record StarredPair : Type 0 where
  pub hw1 : ℕ
  pub hw2 : ℕ
  pub expects : Reads

abbrev pub starred_pair : ℕ → ℕ → Reads → StarredPair
starred_pair a b r = record { hw1 = a; hw2 = b; expects = r }

-- k/128
abbrev pub over128 : ℕ → Operand
unfolding odd
over128 k = Float (odd 12 false k 0 7)

unfoldable pub starred : List StarredPair
starred =
    starred_pair 0xef22 0x0844 (says "vadd.i32" (Q 0 ∷ Q 1 ∷ Q 2 ∷ [])) ∷
    starred_pair 0xef21 0x0111 (says "vmov" (D 0 ∷ D 1 ∷ [])) ∷
    starred_pair 0xef01 0x0402 (says "vshl.s8" (D 0 ∷ D 2 ∷ D 1 ∷ [])) ∷
    starred_pair 0xef88 0x0a11 (says "vmovl.s8" (Q 0 ∷ D 1 ∷ [])) ∷
    starred_pair 0xff80 0x0090 (says "vshr.u64" (D 0 ∷ D 0 ∷ Imm (pos 64) ∷ [])) ∷
    starred_pair 0xefc0 0xee3f (says "vmov.i64" (D 30 ∷ Imm (pos 4294967295) ∷ [])) ∷
    starred_pair 0xff80 0x0e30 (says "vmov.i64" (D 0 ∷ Imm (negsuc 72057594037927935) ∷ [])) ∷
    starred_pair 0xef87 0x0f10 (says "vmov.f32" (D 0 ∷ over128 128 ∷ [])) ∷
    starred_pair 0xef90 0x0e10 (refusal 2) ∷
    starred_pair 0xef00 0x0b50 (refusal 5) ∷
    starred_pair 0xef80 0x1000 (refusal 6) ∷
    starred_pair 0xef80 0x0f30 (refusal 3) ∷
    starred_pair 0xef80 0x0210 (refusal 4) ∷
    []

-- the record of a name and its operands; every starred pair that is accepted is a T1
unfoldable pub expected : Reads → ℕ → Answer Insn
expected (says name l) address = accepted (insn (number_of name) T1 address (length l) (get_or l 0 Absent) (get_or l 1 Absent) (get_or l 2 Absent))
expected (refusal n) address = refused n

-- at every address they read so
abbrev pub StarredRead : Type 0
StarredRead =
    (address : ℕ) → map (λ (r : StarredPair). reading r.hw1 r.hw2 address) starred ≡ map (λ (r : StarredPair). expected r.expects address) starred
