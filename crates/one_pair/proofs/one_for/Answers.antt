use mathlib.Core.Path.{sym}
use Rattle.one_pair.proofs.Guess.{found-one}
use Rattle.one_pair.proofs.one_for.Goals as goal

pub returns-then-is_left : goal.returns-then-is_left
returns-then-is_left c = rw (sym c.if-is_left.ensures) at (found-one _ _ c.candidate-t.ensures)

pub returns : goal.returns
returns c = rw (sym c.if-is_left.ensures) at (found-one _ _ c.candidate-t.ensures)
