-- Promises beyond the contracts; proofs/Promises.antt proves each under its name.
-- Assumes nothing.
use Rattle.std.specs.Prelude.{true, ◌≡◌, ℕ, ◌<◌, ◌^◌}
use Rattle.std.specs.Float.Ieee.{fits}
use Rattle.std.specs.Float.{binary64}
use Rattle.std.specs.Int.Signed.{mag}
use Rattle.laws.specs.Answer.{accepted}
use Rattle.insn.specs.declared.Insn.{Insn}
use Rattle.insn.specs.declared.Operand.{Operand}
use Rattle.insn.specs.declared.Operand.TheVariants.{D, Q, S, Imm, Float, Other, Absent}
use Rattle.decode.specs.Reading.{reading}
use Rattle.words.specs.Records.{record_of}
use Rattle.words.specs.Words.{record_words}

-- an operand in the bits of its field: a register's number in 8, a whole number in 64 with its sign, a float in 64
abbrev pub OperandFits : Operand → Type 0
OperandFits Absent = Unit {0}
OperandFits (D n) = n < 2 ^ 8
OperandFits (Q n) = n < 2 ^ 8
OperandFits (S n) = n < 2 ^ 8
OperandFits (Imm v) = mag v < 2 ^ 63
OperandFits (Float x) = fits binary64 x ≡ true
OperandFits Other = Unit {0}

-- a record whose fields are in their bits
pub record RecordFits (i : Insn) : Type 0 where
  pub mnemonic : i.mnemonic < 2 ^ 16
  pub address : i.address < 2 ^ 32
  pub count : i.count < 2 ^ 8
  pub first : OperandFits i.first
  pub second : OperandFits i.second
  pub third : OperandFits i.third

-- the words of such a record stand for that record
abbrev pub WordsBack : Type 0
WordsBack = (i : Insn) → RecordFits i → record_of (record_words i) ≡ i

-- every record that is read is such a record
abbrev pub ReadingsFit : Type 0
ReadingsFit = (hw1 hw2 address : ℕ) (i : Insn) → address < 2 ^ 32 → reading hw1 hw2 address ≡ accepted i → RecordFits i
