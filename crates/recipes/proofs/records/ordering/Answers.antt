use mathlib.Core.Path.{◌≡◌}
use native.Mathlib.Omega.{arith}
use Rattle.recipes.specs.Pairs.{pair_table, pairs_by}
use Rattle.steps.specs.Rules.{table}
use Rattle.steps.proofs.Kept.{kept_at}
use Rattle.recipes.proofs.Names.{max-known, min-known, greater-known}
use Rattle.recipes.proofs.records.ordering.Goals as goal

pub returns-in-11 : goal.returns-in-11
unfolding pairs_by pair_table table
returns-in-11 c =
    let k = c.in-11.is in
    rw (k, c.rows.ensures, c.by_sign.ensures, (max-known c.args.s.step.sign c.args.s.step.width (kept_at _ 11 c.args.s.kept k).width).numbered)

pub returns-in-12 : goal.returns-in-12
unfolding pairs_by pair_table table
returns-in-12 c =
    let k = c.in-12.is in
    rw (k, c.rows-in-12.ensures, c.by_sign-in-12.ensures, (min-known c.args.s.step.sign c.args.s.step.width (kept_at _ 12 c.args.s.kept k).width).numbered)

pub returns-in_default : goal.returns-in_default
unfolding pairs_by pair_table table
returns-in_default c =
    let k : c.args.s.step.kind ≡ 13 = omega arith in
    rw (k, c.rows-in_default.ensures, c.by_sign-in_default.ensures, (greater-known c.args.s.step.sign c.args.s.step.width (kept_at _ 13 c.args.s.kept k).width).numbered)
