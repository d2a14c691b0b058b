-- A promise of every pair that is read; proofs/Promises.antt proves it under its name.
-- Assumes nothing.
use Rattle.std.specs.Prelude.{true, ◌≡◌, ℕ}
use Rattle.laws.specs.Answer.{accepted}
use Rattle.insn.specs.declared.Insn.{Insn}
use Rattle.decode.specs.Reading.{reading}
use Rattle.forms.specs.Promises.{listed}
use Rattle.meanings.specs.Meaning.{Act, meaning_of}

-- a record that has a meaning
pub record Meant (i : Insn) : Type 0 where
  pub does : Act
  pub meant : meaning_of i ≡ accepted does

-- every pair that is read as a listed name has one, so that 10 is for the other names alone
abbrev pub ReadMeant : Type 0
ReadMeant = (hw1 hw2 address : ℕ) (i : Insn) → reading hw1 hw2 address ≡ accepted i → listed i.mnemonic ≡ true → Meant i
