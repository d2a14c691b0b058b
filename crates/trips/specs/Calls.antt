-- What the two calls that go both ways answer.
-- Assumes nothing.
use Rattle.std.specs.Prelude.{◌≡◌, ℕ}
use Rattle.laws.specs.Answer.{Answer, accepted, refused}
use Rattle.insn.specs.declared.Edition.{Edition}
use Rattle.insn.specs.declared.Insn.{Insn}
use Rattle.insn.specs.declared.Mark.{Mark}
use Rattle.decode.specs.Editions.{reading_in}
use Rattle.writings.specs.Forms.{Pair, pair}
use Rattle.trips.specs.Spelling.{Spelling, spelled}

-- a pair that was read, for the pair itself; a refusal stays what it is
abbrev pub same_pair : Answer Insn → ℕ → ℕ → Answer Pair
same_pair (accepted i) hw1 hw2 = accepted (pair hw1 hw2)
same_pair (refused n) hw1 hw2 = refused n

-- the reading of a pair that was written; a refusal stays what it is
abbrev pub read_back : Edition → Answer Pair → ℕ → Answer Insn
read_back edition (accepted (pair hw1 hw2)) address = reading_in edition hw1 hw2 address
read_back edition (refused n) address = refused n

-- where a pair was written, the reading is accepted with the spelling at the address, whatever the mark
abbrev pub SpelledBack : Answer Pair → Spelling → ℕ → Answer Insn → Type 0
SpelledBack (accepted p) s address read = (mark : Mark) × (read ≡ accepted (spelled s mark address))
SpelledBack (refused n) s address read = read ≡ refused n
