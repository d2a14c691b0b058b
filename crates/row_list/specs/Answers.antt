-- What each case of the answer stands for.
-- Assumes nothing.
use Rattle.std.specs.Prelude.{ℕ, Option, Some, None}
use Rattle.row_list.specs.Lists.{Parsed, listed, no_list}

abbrev pub list_answer : Option ℕ → Parsed ℕ
list_answer (Some set) = listed set
list_answer None = no_list
