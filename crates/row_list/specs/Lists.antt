-- A list of rows as a text: their numbers in decimal with a comma between each two, or `none`, or `all`.
-- Assumes nothing.
use Rattle.std.specs.Prelude.{List, [], ◌∷◌, ℕ, eqb}
use Rattle.std.specs.List.{slice_split}
use Rattle.std.specs.Str.{bytes_eq}
use Rattle.laws.specs.Choice.{choose}
use Rattle.laws.specs.Search.{Found, at, none, first_below}
use Rattle.names.specs.Names.{codes}
use Rattle.steps.specs.Sets.{set_of}
use Rattle.text.specs.Text.{decimal}

-- a text cut at its commas (44): one word more than it has commas
abbrev pub words_of : List ℕ → List (List ℕ)
words_of text = slice_split (λ b. eqb b 44) text

-- the row that a word names: the one of 0 to 13 whose decimal text is the word
unfoldable pub row_named : List ℕ → Found
row_named word = first_below 14 (λ r. bytes_eq word (decimal r))

-- what a text lists; or it is no list
pub data Parsed (A : Type 0) : Type 0 where
  listed : A → Parsed A
  no_list : Parsed A

-- a row, and those listed after it
abbrev pub and_rows : Found → Parsed (List ℕ) → Parsed (List ℕ)
and_rows (at r) (listed rows) = listed (r ∷ rows)
and_rows (at r) no_list = no_list
and_rows none rest = no_list

-- the rows that words name, one each; no list where a word names none
unfoldable pub rows_named : List (List ℕ) → Parsed (List ℕ)
rows_named [] = listed []
rows_named (word ∷ words) = let rest = rows_named words in and_rows (row_named word) rest

-- all fourteen rows
abbrev pub all_rows : List ℕ
all_rows = 0 ∷ 1 ∷ 2 ∷ 3 ∷ 4 ∷ 5 ∷ 6 ∷ 7 ∷ 8 ∷ 9 ∷ 10 ∷ 11 ∷ 12 ∷ 13 ∷ []

-- the rows of a list, in its order
unfoldable pub rows_listed : List ℕ → Parsed (List ℕ)
rows_listed text = choose (bytes_eq text (codes "none")) (listed []) (choose (bytes_eq text (codes "all")) (listed all_rows) (rows_named (words_of text)))

-- the rows as a set
abbrev pub as_set : Parsed (List ℕ) → Parsed ℕ
as_set (listed rows) = listed (set_of rows)
as_set no_list = no_list

-- the set of the rows of a list
abbrev pub list_of : List ℕ → Parsed ℕ
list_of text = as_set (rows_listed text)
