-- What a listing answers and leaves in the buffer.
-- Assumes nothing.
use Rattle.std.specs.Prelude.{List, ◌++◌, ℕ, ◌+◌, ◌*◌, leb, length, drop}
use Rattle.laws.specs.Answer.{Answer, accepted, refused}
use Rattle.laws.specs.Choice.{choose}

-- the text's length, or 14 where the buffer is shorter
unfoldable pub length_for : List ℕ → List ℕ → Answer ℕ
length_for text out = choose (leb (length text) (length out)) (accepted (length text)) (refused 14)

-- the text and then what was there; all as it was where the buffer is shorter
unfoldable pub out_after : List ℕ → List ℕ → List ℕ
out_after text out = choose (leb (length text) (length out)) (text ++ drop (length text) out) out

-- the first line has at most 12 bytes, each of at most 16384 pairs a line of at most 55, and the totals have at most 58
abbrev pub enough : ℕ
enough = 12 + 55 * 16384 + 58
