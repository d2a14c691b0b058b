use mathlib.Core.Path.{sym, ◌∙◌}
use Rattle.decode.proofs.Editions.{fused-cell}
use Rattle.decode.proofs.is_withheld.Goals as goal

pub returns-in-B : goal.returns-in-B
returns-in-B c = rw c.in-B.is (c.is_fused.ensures ∙ sym (fused-cell c.args.hw1 c.args.hw2))
