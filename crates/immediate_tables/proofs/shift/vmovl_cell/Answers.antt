use mathlib.Core.Path.{◌∙◌}
use native.Mathlib.Omega.{arith}
use Rattle.laws.proofs.Range.{values}
use Rattle.names.specs.Names.{names, number_of}
use Rattle.immediate_tables.specs.Shift.{vmovl}
use Rattle.tables.proofs.Listed.{stored}
use Rattle.immediate_tables.proofs.shift.vmovl_cell.Goals as goal

pub returns : goal.returns
unfolding values vmovl names number_of
returns c = c.number_in.ensures ∙ stored vmovl 4 8 c.args.k (λ h. omega arith)
