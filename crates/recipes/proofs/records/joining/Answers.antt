use mathlib.Core.Path.{◌≡◌}
use native.Mathlib.Omega.{arith}
use Rattle.recipes.specs.Pairs.{pair_table, pairs_by}
use Rattle.steps.specs.Rules.{table}
use Rattle.steps.proofs.Kept.{kept_at}
use Rattle.recipes.proofs.Names.{add-known, sub-known, mul-known, and-known, orr-known, eor-known}
use Rattle.recipes.proofs.records.joining.Goals as goal

pub returns-in-2 : goal.returns-in-2
unfolding pairs_by pair_table table
returns-in-2 c =
    let k = c.in-2.is in
    rw (k, (add-known _ (kept_at _ 2 c.args.s.kept k).width).numbered)

pub returns-in-3 : goal.returns-in-3
unfolding pairs_by pair_table table
returns-in-3 c =
    let k = c.in-3.is in
    rw (k, (sub-known _ (kept_at _ 3 c.args.s.kept k).width).numbered)

pub returns-in_default : goal.returns-in_default
unfolding pairs_by pair_table table
returns-in_default c =
    let k : c.args.s.step.kind ≡ 4 = omega arith in
    rw (k, (mul-known _ (kept_at _ 4 c.args.s.kept k).width).numbered)

pub returns-in-5 : goal.returns-in-5
unfolding pairs_by pair_table table
returns-in-5 c = rw (c.in-5.is, and-known.numbered)

pub returns-in-6 : goal.returns-in-6
unfolding pairs_by pair_table table
returns-in-6 c = rw (c.in-6.is, orr-known.numbered)

pub returns-in_default-k : goal.returns-in_default-k
unfolding pairs_by pair_table table
returns-in_default-k c =
    let k : c.args.s.step.kind ≡ 7 = omega arith in
    rw (k, eor-known.numbered)
