use mathlib.Core.Path.{◌≡◌, ap, ◌∙◌}
use lib.ListN.{get_or}
use Rattle.std.proofs.Common.{rules}
use Rattle.names.specs.Names.{names, number_of, blank}
use Rattle.tables.specs.Cells.{read_number}
use Rattle.immediate_tables.specs.Shift.{shift_rows}
use Rattle.immediate_tables.proofs.Rows.{Row, rows, none, its-class, its-cells}
use Rattle.immediate_tables.proofs.shift.row.Goals as goal

same : (c : goal.After-unwrap_or) → c.unwrap_or.result ≡ get_or rows c.args.at none
unfolding rows shift_rows names number_of
same c = search rules

pub returns-clause-class : goal.returns-clause-class
returns-clause-class c = ap (λ (r : Row). r.0) (same c) ∙ its-class c.args.at

pub returns-clause-cells : goal.returns-clause-cells
returns-clause-cells c = λ j. ap (λ (r : Row). read_number (get_or r.1 j blank)) (same c) ∙ its-cells c.args.at j
