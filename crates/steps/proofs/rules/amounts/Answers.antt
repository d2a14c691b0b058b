use mathlib.Core.Path.{◌∙◌, ap}
use Prim.Native.Nat.{ℕ, ◌+◌}
use native.Mathlib.Nat.{mod-eq_of_lt}
use native.Mathlib.Numerals.{add-one}
use native.Mathlib.Omega.{arith}
use lib.Pow.{pow_mono}
use Rattle.steps.specs.Rules.{table}
use Rattle.insn.specs.Widths.{bits_at}
use Rattle.steps.proofs.Columns.{no-amount}
use Rattle.steps.proofs.rules.amounts.Goals as goal

pub returns-then-kind-eq9 : goal.returns-then-kind-eq9
unfolding table
returns-then-kind-eq9 c = rw c.if-kind-eq9.true (mod-eq_of_lt (omega (arith, pow_mono {i = c.args.width} {j = 3} (omega arith))))

pub returns-then-kind-eq10 : goal.returns-then-kind-eq10
unfolding table
returns-then-kind-eq10 c = rw c.if-kind-eq10.true (ap (λ (n : ℕ). n + 1) (mod-eq_of_lt (omega (arith, pow_mono {i = c.args.width} {j = 3} (omega arith)))) ∙ add-one _)

pub returns-else-kind-eq10 : goal.returns-else-kind-eq10
returns-else-kind-eq10 c = rw (no-amount (bits_at c.args.width) c.args.kind c.if-kind-eq9.false c.if-kind-eq10.false)
