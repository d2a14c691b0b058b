use mathlib.Core.List.{[], ◌∷◌}
use mathlib.Core.Path.{ap}
use Rattle.recipes.specs.Pairs.{pair_table, pairs_by}
use Rattle.recipes.proofs.records.single.Goals as goal

pub returns-then-k-eq1 : goal.returns-then-k-eq1
unfolding pairs_by pair_table
returns-then-k-eq1 c = rw c.if-k-eq1.true (ap (λ i. i ∷ []) c.copy.ensures)

pub returns-then-k-lt8 : goal.returns-then-k-lt8
returns-then-k-lt8 c = rw c.rows.ensures c.joining.ensures
