-- Promises beyond the contracts; proofs/Promises.antt proves each under its name.
-- Assumes nothing.
use Rattle.std.specs.Prelude.{List, [], ◌∷◌, ◌≡◌, ℕ, ◌+◌, ◌/◌, ◌≤◌, length}
use Rattle.names.specs.Names.{codes}
use Rattle.insn.specs.Promises.{AnswersApart}
use Rattle.listing.specs.Answers.{enough}
use Rattle.totals.specs.declared.Sort.TheVariants.{Same, Diff, Shifted, Imm, Refused}
use Rattle.lines.specs.Listing.{figure, ended_lines, listing}

-- an answer says which case it is
abbrev pub ListedApart : Type 0
ListedApart = AnswersApart ℕ

-- no listing is longer than what is always enough
abbrev pub NeverLonger : Type 0
NeverLonger = (bytes : List ℕ) → length (listing bytes) ≤ enough

-- the five totals add up to the pairs of the header
abbrev pub TotalsAdd : Type 0
TotalsAdd =
    (bytes : List ℕ) → figure bytes Same + figure bytes Diff + figure bytes Shifted + figure bytes Imm + figure bytes Refused ≡ length bytes / 4

-- document 01's sample, with its totals
abbrev pub Sample : Type 0
Sample =
    listing (0x22 ∷ 0xef ∷ 0x44 ∷ 0x08 ∷ 0x80 ∷ 0xef ∷ 0x30 ∷ 0x0f ∷ 0x87 ∷ 0xef ∷ 0x10 ∷ 0x0f ∷ [])
    ≡ ended_lines
    (codes "pairs 3"
    ∷ codes "0 ef22 0844 vadd.i32 q0,q1,q2"
    ∷ codes "1 ef80 0f30 refused 3"
    ∷ codes "2 ef87 0f10 vmov.f32 d0,#128/128"
    ∷ codes "same 1 diff 0 shift 0 imm 1 refused 1"
    ∷ [])
