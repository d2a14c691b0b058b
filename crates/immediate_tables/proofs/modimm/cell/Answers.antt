use mathlib.Core.Path.{◌∙◌}
use native.Mathlib.Omega.{arith}
use Rattle.laws.proofs.Range.{values}
use Rattle.names.specs.Names.{names, number_of}
use Rattle.immediate_tables.specs.Modimm.{modimm}
use Rattle.tables.proofs.Listed.{tabled}
use Rattle.immediate_tables.proofs.modimm.cell.Goals as goal

pub returns-clause-number : goal.returns-clause-number
unfolding values modimm names number_of
returns-clause-number c = c.cell_in.ensures.number ∙ tabled modimm 16 32 c.args.k (λ h. omega arith)
