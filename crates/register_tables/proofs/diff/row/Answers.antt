use mathlib.Core.Path.{◌≡◌, ap, ◌∙◌}
use lib.ListN.{get_or}
use Rattle.std.proofs.Common.{rules}
use Rattle.names.specs.Names.{names, number_of, blank}
use Rattle.tables.specs.Cells.{read_number}
use Rattle.register_tables.specs.Diff.{diff_rows}
use Rattle.register_tables.proofs.Rows.{Row, rows, none, its-shape, its-mark, its-cells}
use Rattle.register_tables.proofs.diff.row.Goals as goal

same : (c : goal.After-unwrap_or) → c.unwrap_or.result ≡ get_or rows c.args.at none
unfolding rows diff_rows names number_of
same c = search rules

pub returns-clause-shape : goal.returns-clause-shape
returns-clause-shape c = ap (λ (r : Row). r.0) (same c) ∙ its-shape c.args.at

pub returns-clause-mark : goal.returns-clause-mark
returns-clause-mark c = ap (λ (r : Row). r.1) (same c) ∙ its-mark c.args.at

pub returns-clause-cells : goal.returns-clause-cells
returns-clause-cells c = λ j. ap (λ (r : Row). read_number (get_or r.2 j blank)) (same c) ∙ its-cells c.args.at j
