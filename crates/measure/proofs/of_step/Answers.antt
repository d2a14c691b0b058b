use mathlib.Core.Path.{sym}
use Prim.Native.Nat.{◌+◌, ◌*◌}
use native.Mathlib.Omega.{arith}
use lib.ListN.{length-append}
use Rattle.recipes.specs.Pairs.{pair_table, pairs_by}
use Rattle.recipes.proofs.ByKind.{one-pair}
use Rattle.steps.proofs.Kept.{kind-small}
use Rattle.measure.proofs.of_step.Goals as goal

pub returns-then-k-eq0 : goal.returns-then-k-eq0
unfolding pairs_by pair_table
returns-then-k-eq0 c =
    let s = c.args.s.step in
    (rw c.if-k-eq0.true (simp length-append (omega (arith, c.of_half.ensures.0 (2 * s.target), c.of_half-then-k-eq0.ensures.0 (2 * s.target + 1)))), omega (arith, c.of_half.ensures.1, c.of_half-then-k-eq0.ensures.1))

pub returns-then-k-eq8 : goal.returns-then-k-eq8
unfolding pairs_by pair_table
returns-then-k-eq8 c = (rw c.if-k-eq8.true, omega arith)

pub returns-then-k-eq14 : goal.returns-then-k-eq14
unfolding pairs_by pair_table
returns-then-k-eq14 c = (rw c.if-k-eq14.true, omega arith)

pub returns-else-k-eq14 : goal.returns-else-k-eq14
returns-else-k-eq14 c =
    (sym (one-pair c.args.s.step c.args.s.step.kind (kind-small c.args.s.step c.args.s.kept) c.if-k-eq0.false c.if-k-eq8.false c.if-k-eq14.false), omega arith)
