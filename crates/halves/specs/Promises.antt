-- One pair where one will do, over what pairs are read as and what their steps leave; proofs/Promises.antt proves each promise under its name.
-- From document 02, F-10.
-- Assumes nothing.
use Rattle.std.specs.Prelude.{true, List, [], ◌∷◌, ◌≢◌, ◌≡◌, ℕ, ◌+◌, ◌*◌, ◌≤◌, ◌<◌}
use Rattle.laws.specs.Answer.{accepted}
use Rattle.laws.specs.Search.{at, none}
use Rattle.insn.specs.declared.Insn.{Insn}
use Rattle.insn.specs.declared.Operand.TheVariants.{D}
use Rattle.names.specs.Names.{name_of}
use Rattle.fields.specs.Halfwords.{bit, field}
use Rattle.read_immediates.specs.Modimm.{imm8_of}
use Rattle.decode.specs.Reading.{reading, family_of}
use Rattle.decode.specs.declared.Family.TheVariants.{ModifiedImmediate}
use Rattle.writings.specs.Forms.{pair}
use Rattle.encode.specs.Writing.{writing}
use Rattle.effects.specs.File.{File, Good, read_d}
use Rattle.machine.specs.State.{State}
use Rattle.machine.specs.Step.{step_pair}
use Rattle.one_pair.specs.One.{setting, one_for}
use Rattle.recipes.specs.Pairs.{two_of, three_of, immediate, by_words, recipe_pairs, half_pairs}

-- v in Dr, and every other register as it was
pub record Alone (r v : ℕ) (file after : File) : Type 0 where
  pub here : read_d after r ≡ v
  pub others : (k : ℕ) → k ≢ r → read_d after k ≡ read_d file k

-- a step that leaves this
pub record Leaves (r v hw1 hw2 : ℕ) (s : State) : Type 0 where
  pub after : State
  pub stepped : step_pair hw1 hw2 s ≡ accepted after
  pub alone : Alone r v s.file after.file

-- a pair that is accepted, is read as a vmov or a vmvn, and sets that half alone, from every file
pub record SetsAlone (r v hw1 hw2 : ℕ) : Type 0 where
  pub first-halfword : hw1 < 65536
  pub second-halfword : hw2 < 65536
  pub insn : Insn
  pub read : reading hw1 hw2 0 ≡ accepted insn
  pub named : setting (name_of insn.mnemonic) ≡ true
  pub leaves : (s : State) → Good s.file → Leaves r v hw1 hw2 s

-- op, then cmode, then imm8, in the order of a number
abbrev pub place_of : ℕ → ℕ → ℕ
place_of hw1 hw2 = bit 5 hw2 * 4096 + field 11 8 hw2 * 256 + imm8_of hw1 hw2

-- one record, which is written as the lowest such pair; no other has its place
pub record Lowest (r v : ℕ) (pairs : List Insn) : Type 0 where
  pub one : Insn
  pub single : pairs ≡ one ∷ []
  pub hw1 : ℕ
  pub hw2 : ℕ
  pub wrote : writing one ≡ accepted (pair hw1 hw2)
  pub sets : SetsAlone r v hw1 hw2
  pub lowest : (hw3 hw4 : ℕ) → SetsAlone r v hw3 hw4 → place_of hw1 hw2 ≤ place_of hw3 hw4
  pub only : (hw3 hw4 : ℕ) → SetsAlone r v hw3 hw4 → place_of hw3 hw4 ≡ place_of hw1 hw2 → pair hw3 hw4 ≡ pair hw1 hw2

-- such a pair is a modified immediate: a copy of a register and vmovl, whose names begin so too, leave no number from every file
abbrev pub OnlyImmediates : Type 0
OnlyImmediates = (r v hw1 hw2 : ℕ) → r < 32 → SetsAlone r v hw1 hw2 → family_of hw1 hw2 ≡ ModifiedImmediate

-- one pair wherever there is such a pair
abbrev pub OneWhereOne : Type 0
OneWhereOne = (r v hw1 hw2 : ℕ) → r < 32 → SetsAlone r v hw1 hw2 → Lowest r v (half_pairs r v)

-- and document 01's longer recipe only if there is none
abbrev pub LongerElse : Type 0
LongerElse = (r v : ℕ) → r < 32 → ((hw1 hw2 : ℕ) → SetsAlone r v hw1 hw2 → ⊥) → half_pairs r v ≡ recipe_pairs r (by_words v)

-- every number is of one sort or the other, and the search of crate one_pair says of which
pub data Decided (r v : ℕ) : Type 0 where
  one : (t : ℕ) → one_for v ≡ at t → Lowest r v (half_pairs r v) → Decided r v
  longer : one_for v ≡ none → ((hw1 hw2 : ℕ) → SetsAlone r v hw1 hw2 → ⊥) → half_pairs r v ≡ recipe_pairs r (by_words v) → Decided r v

abbrev pub OneOrLonger : Type 0
OneOrLonger = (r v : ℕ) → r < 32 → Decided r v

-- all ones, ffffff00 twice, the lowest byte of ones, and a number that has none
abbrev pub WorkedHalves : Type 0
WorkedHalves =
    (r : ℕ)
    → (half_pairs r 0xffff_ffff_ffff_ffff ≡ two_of "vmov.i8" (D r) (immediate 255) ∷ [])
    × (half_pairs r 0xffff_ff00_ffff_ff00 ≡ two_of "vmvn.i32" (D r) (immediate 255) ∷ [])
    × (half_pairs r 0xff ≡ two_of "vmov.i64" (D r) (immediate 255) ∷ [])
    × (half_pairs r 1
    ≡ two_of "vmov.i32" (D r) (immediate 1) ∷ two_of "vmov.i32" (D 28) (immediate 0) ∷ two_of "vmov.i64" (D 30) (immediate 4294967295) ∷ three_of "vbif" (D r) (D 28) (D 30) ∷ [])
