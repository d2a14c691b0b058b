use mathlib.Core.Path.{sym}
use Prim.Native.Nat.{◌^◌}
use native.Mathlib.Omega.{arith}
use borrow.Author.Tests.{lt-ltb}
use Rattle.steps.specs.Rules.{unused, table}
use Rattle.steps.proofs.Columns.{fits_below, no_word}
use Rattle.steps.proofs.rules.keeps_word.Goals as goal

pub returns-then-kind-eq0 : goal.returns-then-kind-eq0
unfolding table
returns-then-kind-eq0 c = rw c.if-kind-eq0.true (sym (lt-ltb c.args.v (2 ^ 64) (omega arith)))

pub returns-else-kind-eq0 : goal.returns-else-kind-eq0
returns-else-kind-eq0 c = rw (no_word c.args.kind c.if-kind-eq0.false) (sym (fits_below unused c.args.v))
