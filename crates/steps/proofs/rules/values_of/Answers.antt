use mathlib.Core.Path.{◌≡◌, refl}
use Prim.Native.Nat.{ℕ, ◌<◌}
use lib.ListN.{get_or}
use Rattle.steps.specs.declared.rules.TheConstants.{VALUES}
use Rattle.steps.specs.declared.rules.Values.{Values}
use Rattle.steps.specs.Own.{limits}
use Rattle.steps.specs.Rules.{table, uses_of}
use Rattle.steps.proofs.Columns.{uses-past}
use Rattle.steps.proofs.Each.{each}
use Rattle.steps.proofs.rules.values_of.Goals as goal

by_kind : (d : Values) (k : ℕ) → k < 15 → get_or VALUES k d ≡ limits (uses_of k)
unfolding table
by_kind d =
    each (λ (k : ℕ). get_or VALUES k d ≡ limits (uses_of k)) 15
    (refl, (refl, (refl, (refl, (refl, (refl, (refl, (refl, (refl, (refl, (refl, (refl, (refl, (refl, (refl, tt)))))))))))))))

pub returns-then-kind-lt15 : goal.returns-then-kind-lt15
returns-then-kind-lt15 c = by_kind _ c.args.kind c.if-kind-lt15.true

pub returns-else-kind-lt15 : goal.returns-else-kind-lt15
returns-else-kind-lt15 c = rw (uses-past c.args.kind c.if-kind-lt15.false) refl
