use Rattle.std.proofs.Common.{◌≡◌, length, drop}
use Rattle.row_list.specs.Lists.{words_of, rows_named, as_set}
use Rattle.row_list.proofs.Joins.{joined}
use Rattle.row_list.proofs.words_rows.Given as goal

abbrev pub invariant-loop-word : goal.invariant-loop-word
invariant-loop-word l = joined l.rows (as_set (rows_named (drop (length l.yielded) (words_of l.text)))) ≡ as_set (rows_named (words_of l.text))
