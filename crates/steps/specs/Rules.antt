-- The step rules: document 01, 'Sum sheet'. They look at one step alone.
-- Assumes nothing.
use Rattle.std.specs.Prelude.{Bool, true, List, [], ◌∷◌, ◌≡◌, ℕ, ◌^◌, eqb, leb, ltb, get_or}
use Rattle.laws.specs.Choice.{both}
use Rattle.insn.specs.Widths.{bits_at}
use Rattle.steps.specs.declared.Step.{Step}

-- how a kind uses a byte or a word: not at all, and then it is 0; from 0 to n; from 0 to n - 1
pub data Use : Type 0 where
  unused : Use
  up_to : ℕ → Use
  below : ℕ → Use

abbrev pub allows : Use → ℕ → Bool
allows unused x = eqb x 0
allows (up_to n) x = leb x n
allows (below n) x = ltb x n

-- what a kind uses; the amounts go by the bits of a lane
pub record Uses : Type 0 where
  pub a : Use
  pub b : Use
  pub c : Use
  pub width : Use
  pub amount : ℕ → Use
  pub sign : Use
  pub words : Use

abbrev pub uses : Use → Use → Use → Use → (ℕ → Use) → Use → Use → Uses
uses a b c width amount sign words = record { a = a; b = b; c = c; width = width; amount = amount; sign = sign; words = words }

abbrev pub a_row : Use
a_row = up_to 13

abbrev pub no_amount : ℕ → Use
no_amount w = unused

-- a, b, c, width, amount, sign, words
unfoldable pub table : List Uses
table =
    uses unused unused unused unused no_amount unused (below (2 ^ 64)) ∷  -- 0 constant
    uses a_row unused unused unused no_amount unused unused ∷  -- 1 copy
    uses a_row a_row unused (up_to 3) no_amount unused unused ∷  -- 2 sum
    uses a_row a_row unused (up_to 3) no_amount unused unused ∷  -- 3 difference
    uses a_row a_row unused (up_to 2) no_amount unused unused ∷  -- 4 product
    uses a_row a_row unused unused no_amount unused unused ∷  -- 5 and
    uses a_row a_row unused unused no_amount unused unused ∷  -- 6 or
    uses a_row a_row unused unused no_amount unused unused ∷  -- 7 exclusive or
    uses a_row unused unused unused no_amount unused unused ∷  -- 8 not
    uses a_row unused unused (up_to 3) below unused unused ∷  -- 9 left
    uses a_row unused unused (up_to 3) up_to (up_to 1) unused ∷  -- 10 right
    uses a_row a_row unused (up_to 2) no_amount (up_to 1) unused ∷  -- 11 greatest
    uses a_row a_row unused (up_to 2) no_amount (up_to 1) unused ∷  -- 12 least
    uses a_row a_row unused (up_to 2) no_amount (up_to 1) unused ∷  -- 13 mask
    uses a_row a_row a_row unused no_amount unused unused ∷  -- 14 pick
    []

abbrev pub uses_of : ℕ → Uses
uses_of kind = get_or table kind (uses unused unused unused unused no_amount unused unused)

-- the target is a row, and the other rows and the width code are as the kind uses them
unfoldable pub keeps_rows : Uses → Step → Bool
keeps_rows u s =
    both (allows a_row s.target) (both (allows u.a s.a) (both (allows u.b s.b) (both (allows u.c s.c) (allows u.width s.width))))

-- so are the amount, the sign and the two words
unfoldable pub keeps_numbers : Uses → Step → Bool
keeps_numbers u s =
    both (allows (u.amount (bits_at s.width)) s.amount) (both (allows u.sign s.sign) (both (allows u.words s.low) (allows u.words s.high)))

-- whether a step keeps the rules
unfoldable pub keeps : Step → Bool
keeps s = both (leb s.kind 14) (both (keeps_rows (uses_of s.kind) s) (keeps_numbers (uses_of s.kind) s))

-- every step does
abbrev pub AllKeep : List Step → Type 0
AllKeep [] = Unit {0}
AllKeep (s ∷ steps) = (keeps s ≡ true) × AllKeep steps
