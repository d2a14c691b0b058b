use mathlib.Core.List.{[], ◌∷◌}
use mathlib.Core.Path.{◌≡◌, ap}
use native.Mathlib.Omega.{arith}
use borrow.Author.Tests.{eq-eqb, ne_eqb}
use Rattle.recipes.specs.Pairs.{pair_table, pairs_by}
use Rattle.steps.specs.Rules.{table}
use Rattle.steps.proofs.Kept.{kept_at}
use Rattle.recipes.proofs.Names.{left-known, right-known}
use Rattle.recipes.proofs.records.shift.Goals as goal

pub returns-then-s-eq9 : goal.returns-then-s-eq9
unfolding pairs_by pair_table table
returns-then-s-eq9 c =
    let k = c.if-s-eq9.true in
    rw (k, c.three.ensures, c.immediate-amount.ensures, (left-known _ (kept_at _ 9 c.args.s.kept k).width).numbered)

pub returns-then-s-eq0 : goal.returns-then-s-eq0
unfolding pairs_by pair_table table
returns-then-s-eq0 c =
    let k : c.args.s.step.kind ≡ 10 = omega (arith, c.if-s-eq9.false) in
    rw (k, eq-eqb _ 0 c.if-s-eq0.true) (ap (λ i. i ∷ []) c.copy.ensures)

pub returns : goal.returns
unfolding pairs_by pair_table table
returns c =
    let k : c.args.s.step.kind ≡ 10 = omega (arith, c.if-s-eq9.false) in
    rw (k, c.three-2.ensures, c.immediate-amount.ensures, c.by_sign.ensures, ne_eqb _ 0 c.if-s-eq0.false, (right-known _ _ (kept_at _ 10 c.args.s.kept k).width).numbered)
