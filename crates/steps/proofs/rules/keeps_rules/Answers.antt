use mathlib.Core.Path.{sym, ◌∙◌}
use native.Mathlib.Omega.{arith}
use borrow.Author.Tests.{le-leb}
use Rattle.steps.specs.Rules.{keeps}
use Rattle.steps.proofs.Kept.{kind-past, width-small}
use Rattle.steps.proofs.rules.keeps_rules.Goals as goal

pub returns-then-s-ge15 : goal.returns-then-s-ge15
returns-then-s-ge15 c = sym (kind-past c.args.s c.if-s-ge15.true)

pub keeps_numbers-requires : goal.keeps_numbers-requires
keeps_numbers-requires c = width-small c.args.s (omega arith) (sym c.keeps_rows.ensures ∙ c.if-keeps_rows.true)

pub returns-then-keeps_rows : goal.returns-then-keeps_rows
unfolding keeps
returns-then-keeps_rows c = rw (le-leb c.args.s.kind 14 (omega arith), sym c.keeps_rows.ensures, c.if-keeps_rows.true) c.keeps_numbers.ensures

pub returns-else-keeps_rows : goal.returns-else-keeps_rows
unfolding keeps
returns-else-keeps_rows c = rw (le-leb c.args.s.kind 14 (omega arith), sym c.keeps_rows.ensures, c.if-keeps_rows.false)
