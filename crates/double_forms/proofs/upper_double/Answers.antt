use mathlib.Core.Path.{refl, ◌∙◌}
use Prim.Native.Nat.{ℕ, ◌-◌}
use native.Mathlib.Omega.{arith}
use Rattle.laws.proofs.Range.{values}
use Rattle.insn.specs.declared.Sign.TheVariants.{Unsigned}
use Rattle.insn.specs.Widths.{width_at}
use Rattle.double_lanes.specs.declared.LongOp.TheVariants as long
use Rattle.double_lanes.specs.declared.WideOp.TheVariants as wide
use Rattle.double_lanes.specs.declared.DoubleOp.TheVariants.{Long, Wide}
use Rattle.forms.specs.declared.Form.TheVariants.{Double, Nothing}
use Rattle.forms.proofs.Numbered.{numbered, form_at, stretch}
use Rattle.double_forms.proofs.upper_double.Goals as goal

pub returns-in-0-to-314 : goal.returns-in-0-to-314
unfolding values numbered form_at
returns-in-0-to-314 c =
    c.double_at.ensures ∙ stretch (λ (m : ℕ). Double (Long long.Add Unsigned) (width_at (m - 312))) {lo = 312} {hi = 315} {m = c.args.m} (omega arith) (omega arith) refl

pub returns-in-315-to-317 : goal.returns-in-315-to-317
unfolding values numbered form_at
returns-in-315-to-317 c =
    c.double_at-in-315-to-317.ensures ∙ stretch (λ (m : ℕ). Double (Wide wide.Add Unsigned) (width_at (m - 315))) {lo = 315} {hi = 318} {m = c.args.m} (omega arith) (omega arith) refl

pub returns-in-318-to-320 : goal.returns-in-318-to-320
unfolding values numbered form_at
returns-in-318-to-320 c =
    c.double_at-in-318-to-320.ensures ∙ stretch (λ (m : ℕ). Double (Long long.Sub Unsigned) (width_at (m - 318))) {lo = 318} {hi = 321} {m = c.args.m} (omega arith) (omega arith) refl

pub returns-in-321-to-323 : goal.returns-in-321-to-323
unfolding values numbered form_at
returns-in-321-to-323 c =
    c.double_at-in-321-to-323.ensures ∙ stretch (λ (m : ℕ). Double (Wide wide.Sub Unsigned) (width_at (m - 321))) {lo = 321} {hi = 324} {m = c.args.m} (omega arith) (omega arith) refl

pub returns-in-324-to-335 : goal.returns-in-324-to-335
unfolding values numbered form_at
returns-in-324-to-335 c =
    stretch (λ (m : ℕ). Nothing) {lo = 324} {hi = 336} {m = c.args.m} (omega arith) (omega arith) refl

pub returns-in-336-to-338 : goal.returns-in-336-to-338
unfolding values numbered form_at
returns-in-336-to-338 c =
    c.double_at-in-336-to-338.ensures ∙ stretch (λ (m : ℕ). Double (Long long.Mla Unsigned) (width_at (m - 336))) {lo = 336} {hi = 339} {m = c.args.m} (omega arith) (omega arith) refl

pub returns-in-339-to-341 : goal.returns-in-339-to-341
unfolding values numbered form_at
returns-in-339-to-341 c =
    c.double_at-in-339-to-341.ensures ∙ stretch (λ (m : ℕ). Double (Long long.Mls Unsigned) (width_at (m - 339))) {lo = 339} {hi = 342} {m = c.args.m} (omega arith) (omega arith) refl

pub returns-in_default : goal.returns-in_default
unfolding values numbered form_at
returns-in_default c =
    c.double_at-in_default.ensures ∙ stretch (λ (m : ℕ). Double (Long long.Mul Unsigned) (width_at (m - 342))) {lo = 342} {hi = 345} {m = c.args.m} (omega arith) (omega arith) refl
