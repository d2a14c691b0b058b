use mathlib.Core.Path.{◌∙◌}
use native.Mathlib.Omega.{arith}
use Rattle.laws.proofs.Range.{values}
use Rattle.names.specs.Names.{names, number_of}
use Rattle.register_tables.specs.Same3.{same3}
use Rattle.tables.proofs.Listed.{tabled}
use Rattle.register_tables.proofs.same3.cell.Goals as goal

pub returns-clause-number : goal.returns-clause-number
unfolding values same3 names number_of
returns-clause-number c = c.cell_in.ensures.number ∙ tabled same3 4 256 c.args.k (λ h. omega arith)
