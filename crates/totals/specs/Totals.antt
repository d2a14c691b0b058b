-- The totals under a listing: document 02, F-2.
-- Assumes nothing.
use Rattle.std.specs.Prelude.{Bool, List, [], ◌∷◌, ◌++◌, ℕ, ◌+◌, eqb}
use Prim.Native.String.{String}
use Rattle.laws.specs.Answer.{Answer, accepted, refused}
use Rattle.laws.specs.Choice.{choose}
use Rattle.insn.specs.declared.Insn.{Insn}
use Rattle.names.specs.Names.{codes}
use Rattle.decode.specs.declared.Family.{Family}
use Rattle.decode.specs.declared.Family.TheVariants.{ThreeSame, ThreeDifferent, Shift, ModifiedImmediate, NoFamily}
use Rattle.decode.specs.Reading.{family_of, reading}
use Rattle.text.specs.Text.{decimal}
use Rattle.totals.specs.declared.Sort.{Sort}
use Rattle.totals.specs.declared.Sort.TheVariants.{Same, Diff, Shifted, Imm, Refused}

-- the sort of an accepted pair of a family; a pair of no family is never accepted
unfoldable pub family_sort : Family → Sort
family_sort ThreeSame = Same
family_sort ThreeDifferent = Diff
family_sort Shift = Shifted
family_sort ModifiedImmediate = Imm
family_sort NoFamily = Refused

-- the sort of a pair of a family, by its reading: the family's if it is accepted, else refused
unfoldable pub reading_sort : Family → Answer Insn → Sort
reading_sort f (accepted i) = family_sort f
reading_sort f (refused n) = Refused

-- the sort of a pair, read by edition C
unfoldable pub sort_of : ℕ → ℕ → Sort
sort_of hw1 hw2 = reading_sort (family_of hw1 hw2) (reading hw1 hw2 0)

-- a sort's column in the line of totals, by which sorts are told apart
unfoldable pub column : Sort → ℕ
column Same = 0
column Diff = 1
column Shifted = 2
column Imm = 3
column Refused = 4

-- the same sort
abbrev pub is_sort : Sort → Sort → Bool
is_sort s t = eqb (column s) (column t)

-- how many of the sorts in a list are s
unfoldable pub count : Sort → List Sort → ℕ
count s [] = 0
count s (t ∷ ts) = choose (is_sort s t) 1 0 + count s ts

-- a word and a number
abbrev pub worded : String → ℕ → List ℕ
worded word n = codes word ++ decimal n

-- the line of totals, from the figure of each sort
unfoldable pub totals_text : (Sort → ℕ) → List ℕ
totals_text figure =
    worded "same " (figure Same)
    ++ worded " diff " (figure Diff)
    ++ worded " shift " (figure Shifted)
    ++ worded " imm " (figure Imm)
    ++ worded " refused " (figure Refused)
