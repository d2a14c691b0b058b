-- Promises beyond the contracts; proofs/Promises.antt proves each under its name.
-- Assumes nothing.
use Rattle.std.specs.Prelude.{Bool, ◌≡◌, ℕ, ◌<◌, Result}
use Rattle.laws.specs.Answer.{accepted}
use Rattle.insn.specs.declared.Operand.{Operand}
use Rattle.insn.specs.declared.Refusal.{Refusal}
use Rattle.fields.specs.Answers.{bits_answer}
use Rattle.fields.specs.Halfwords.{bit, field, first, second}
use Rattle.fields.specs.Registers.{bits, vec_of, vec_bits}

-- a register that a number names has that number, and a register that has a number is named by it
abbrev pub BitsOfVec : Type 0
BitsOfVec = (q : Bool) (d : ℕ) (reg : Operand) → d < 32 → vec_of q d ≡ accepted reg → vec_bits reg ≡ accepted (bits q d)

abbrev pub VecOfBits : Type 0
VecOfBits = (q : Bool) (d : ℕ) (reg : Operand) → vec_bits reg ≡ accepted (bits q d) → (vec_of q d ≡ accepted reg) × (d < 32)

-- the fields of a packed halfword are those that were packed
pub record FirstFields (u a d x : ℕ) : Type 0 where
  pub top : field 15 13 (first u a d x) ≡ 7
  pub u-back : bit 12 (first u a d x) ≡ u
  pub middle : field 11 8 (first u a d x) ≡ 15
  pub a_back : bit 7 (first u a d x) ≡ a
  pub d-back : bit 6 (first u a d x) ≡ d
  pub x-back : field 5 0 (first u a d x) ≡ x
  pub halfword : first u a d x < 65536

abbrev pub FirstUnpacked : Type 0
FirstUnpacked = (u a d x : ℕ) → u < 2 → a < 2 → d < 2 → x < 64 → FirstFields u a d x

pub record SecondFields (vd o b7 b6 b5 b4 y : ℕ) : Type 0 where
  pub vd-back : field 15 12 (second vd o b7 b6 b5 b4 y) ≡ vd
  pub o-back : field 11 8 (second vd o b7 b6 b5 b4 y) ≡ o
  pub b7-back : bit 7 (second vd o b7 b6 b5 b4 y) ≡ b7
  pub b6-back : bit 6 (second vd o b7 b6 b5 b4 y) ≡ b6
  pub b5-back : bit 5 (second vd o b7 b6 b5 b4 y) ≡ b5
  pub b4-back : bit 4 (second vd o b7 b6 b5 b4 y) ≡ b4
  pub y-back : field 3 0 (second vd o b7 b6 b5 b4 y) ≡ y
  pub halfword : second vd o b7 b6 b5 b4 y < 65536

abbrev pub SecondUnpacked : Type 0
SecondUnpacked =
    (vd o b7 b6 b5 b4 y : ℕ) → vd < 16 → o < 16 → b7 < 2 → b6 < 2 → b5 < 2 → b4 < 2 → y < 16 → SecondFields vd o b7 b6 b5 b4 y

-- a halfword's fields, packed again, are the halfword; the first has the fixed bits of the four families
abbrev pub FirstPacked : Type 0
FirstPacked =
    (h : ℕ) → h < 65536 → field 15 13 h ≡ 7 → field 11 8 h ≡ 15 → first (bit 12 h) (bit 7 h) (bit 6 h) (field 5 0 h) ≡ h

abbrev pub SecondPacked : Type 0
SecondPacked =
    (h : ℕ) → h < 65536
    → second (field 15 12 h) (field 11 8 h) (bit 7 h) (bit 6 h) (bit 5 h) (bit 4 h) (field 3 0 h) ≡ h

-- an answer says which case it is
abbrev pub BitsApart : Type 0
BitsApart = (v w : Result (Bool × ℕ) Refusal) → bits_answer v ≡ bits_answer w → v ≡ w
