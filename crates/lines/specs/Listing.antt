-- The listing of a list of bytes: document 01, 'Pairs to check', its last paragraphs; the totals: document 02, F-2.
-- Assumes nothing.
use Rattle.std.specs.Prelude.{Bool, List, [], ◌∷◌, ◌++◌, map, ℕ, zero, suc, ◌+◌, ◌*◌, ◌/◌, ◌%◌, eqb, leb, get_or, length}
use Rattle.laws.specs.Answer.{Answer, accepted, refused}
use Rattle.laws.specs.Choice.{choose, both}
use Rattle.insn.specs.declared.Insn.{Insn}
use Rattle.names.specs.Names.{codes}
use Rattle.decode.specs.Reading.{reading}
use Rattle.text.specs.Text.{decimal, hex4}
use Rattle.display.specs.Operands.{insn_text}
use Rattle.totals.specs.declared.Sort.{Sort}
use Rattle.totals.specs.Totals.{sort_of, count, totals_text}

-- the halfword whose lower byte is at place k
abbrev pub halfword_at : List ℕ → ℕ → ℕ
halfword_at bytes k = get_or bytes k 0 + 256 * get_or bytes (k + 1) 0

-- a record, or the refusal
unfoldable pub reading_text : Answer Insn → List ℕ
reading_text (accepted i) = insn_text i
reading_text (refused n) = codes "refused " ++ decimal n

-- a pair's line: its index, both halfwords, its reading by edition C, and a space (32) between them
unfoldable pub line_text : ℕ → ℕ → ℕ → List ℕ
line_text i hw1 hw2 = decimal i ++ 32 ∷ hex4 hw1 ++ 32 ∷ hex4 hw2 ++ 32 ∷ reading_text (reading hw1 hw2 0)

-- the line of pair i of the bytes
unfoldable pub pair_line : List ℕ → ℕ → List ℕ
pair_line bytes i = line_text i (halfword_at bytes (4 * i)) (halfword_at bytes (4 * i + 2))

-- the sort of pair i of the bytes
unfoldable pub pair_sort : List ℕ → ℕ → Sort
pair_sort bytes i = sort_of (halfword_at bytes (4 * i)) (halfword_at bytes (4 * i + 2))

-- the numbers below n
unfoldable pub numbers_below : ℕ → List ℕ
numbers_below zero = []
numbers_below (suc n) = numbers_below n ++ n ∷ []

-- a multiple of 4, and not too great
unfoldable pub is_listable : ℕ → Bool
is_listable n = both (eqb (n % 4) 0) (leb n 65536)

-- how many of the pairs' lines are of a sort
abbrev pub figure : List ℕ → Sort → ℕ
figure bytes s = count s (map (pair_sort bytes) (numbers_below (length bytes / 4)))

-- the lines: the number of pairs, a line for each pair, and the totals
unfoldable pub lines : List ℕ → List (List ℕ)
lines bytes =
    choose (is_listable (length bytes))
    ((codes "pairs " ++ decimal (length bytes / 4))
    ∷ map (pair_line bytes) (numbers_below (length bytes / 4))
    ++ totals_text (figure bytes) ∷ [])
    (codes "refused 11" ∷ [])

-- every line ends in one byte 10
unfoldable pub ended_lines : List (List ℕ) → List ℕ
ended_lines [] = []
ended_lines (l ∷ ls) = l ++ 10 ∷ ended_lines ls

-- the whole listing
abbrev pub listing : List ℕ → List ℕ
listing bytes = ended_lines (lines bytes)
