use mathlib.Core.Path.{refl, ◌∙◌}
use Prim.Native.Nat.{ℕ, ◌-◌}
use native.Mathlib.Omega.{arith}
use Rattle.laws.proofs.Range.{values}
use Rattle.insn.specs.declared.Sign.TheVariants.{Signed}
use Rattle.insn.specs.Widths.{width_at}
use Rattle.double_lanes.specs.declared.LongOp.TheVariants as long
use Rattle.double_lanes.specs.declared.WideOp.TheVariants as wide
use Rattle.double_lanes.specs.declared.NarrowOp.TheVariants as narrow
use Rattle.double_lanes.specs.declared.DoubleOp.TheVariants.{Long, Wide, Narrow}
use Rattle.forms.specs.declared.Form.TheVariants.{Double, Nothing}
use Rattle.forms.proofs.Numbered.{numbered, form_at, stretch}
use Rattle.double_forms.proofs.lower_double.Goals as goal

pub returns-in-0-to-274 : goal.returns-in-0-to-274
unfolding values numbered form_at
returns-in-0-to-274 c =
    c.double_at.ensures ∙ stretch (λ (m : ℕ). Double (Long long.Add Signed) (width_at (m - 272))) {lo = 272} {hi = 275} {m = c.args.m} (omega arith) (omega arith) refl

pub returns-in-275-to-277 : goal.returns-in-275-to-277
unfolding values numbered form_at
returns-in-275-to-277 c =
    c.double_at-in-275-to-277.ensures ∙ stretch (λ (m : ℕ). Double (Wide wide.Add Signed) (width_at (m - 275))) {lo = 275} {hi = 278} {m = c.args.m} (omega arith) (omega arith) refl

pub returns-in-278-to-280 : goal.returns-in-278-to-280
unfolding values numbered form_at
returns-in-278-to-280 c =
    c.double_at-in-278-to-280.ensures ∙ stretch (λ (m : ℕ). Double (Long long.Sub Signed) (width_at (m - 278))) {lo = 278} {hi = 281} {m = c.args.m} (omega arith) (omega arith) refl

pub returns-in-281-to-283 : goal.returns-in-281-to-283
unfolding values numbered form_at
returns-in-281-to-283 c =
    c.double_at-in-281-to-283.ensures ∙ stretch (λ (m : ℕ). Double (Wide wide.Sub Signed) (width_at (m - 281))) {lo = 281} {hi = 284} {m = c.args.m} (omega arith) (omega arith) refl

pub returns-in-284-to-286 : goal.returns-in-284-to-286
unfolding values numbered form_at
returns-in-284-to-286 c =
    c.double_at-in-284-to-286.ensures ∙ stretch (λ (m : ℕ). Double (Narrow narrow.Add) (width_at (m - 284))) {lo = 284} {hi = 287} {m = c.args.m} (omega arith) (omega arith) refl

pub returns-in-287-to-289 : goal.returns-in-287-to-289
unfolding values numbered form_at
returns-in-287-to-289 c =
    stretch (λ (m : ℕ). Nothing) {lo = 287} {hi = 290} {m = c.args.m} (omega arith) (omega arith) refl

pub returns-in-290-to-292 : goal.returns-in-290-to-292
unfolding values numbered form_at
returns-in-290-to-292 c =
    c.double_at-in-290-to-292.ensures ∙ stretch (λ (m : ℕ). Double (Narrow narrow.Sub) (width_at (m - 290))) {lo = 290} {hi = 293} {m = c.args.m} (omega arith) (omega arith) refl

pub returns-in-293-to-295 : goal.returns-in-293-to-295
unfolding values numbered form_at
returns-in-293-to-295 c =
    stretch (λ (m : ℕ). Nothing) {lo = 293} {hi = 296} {m = c.args.m} (omega arith) (omega arith) refl

pub returns-in-296-to-298 : goal.returns-in-296-to-298
unfolding values numbered form_at
returns-in-296-to-298 c =
    c.double_at-in-296-to-298.ensures ∙ stretch (λ (m : ℕ). Double (Long long.Mla Signed) (width_at (m - 296))) {lo = 296} {hi = 299} {m = c.args.m} (omega arith) (omega arith) refl

pub returns-in-299-to-300 : goal.returns-in-299-to-300
unfolding values numbered form_at
returns-in-299-to-300 c =
    stretch (λ (m : ℕ). Nothing) {lo = 299} {hi = 301} {m = c.args.m} (omega arith) (omega arith) refl

pub returns-in-301-to-303 : goal.returns-in-301-to-303
unfolding values numbered form_at
returns-in-301-to-303 c =
    c.double_at-in-301-to-303.ensures ∙ stretch (λ (m : ℕ). Double (Long long.Mls Signed) (width_at (m - 301))) {lo = 301} {hi = 304} {m = c.args.m} (omega arith) (omega arith) refl

pub returns-in-304-to-305 : goal.returns-in-304-to-305
unfolding values numbered form_at
returns-in-304-to-305 c =
    stretch (λ (m : ℕ). Nothing) {lo = 304} {hi = 306} {m = c.args.m} (omega arith) (omega arith) refl

pub returns-in-306-to-308 : goal.returns-in-306-to-308
unfolding values numbered form_at
returns-in-306-to-308 c =
    c.double_at-in-306-to-308.ensures ∙ stretch (λ (m : ℕ). Double (Long long.Mul Signed) (width_at (m - 306))) {lo = 306} {hi = 309} {m = c.args.m} (omega arith) (omega arith) refl

pub returns-in_default : goal.returns-in_default
unfolding values numbered form_at
returns-in_default c =
    stretch (λ (m : ℕ). Nothing) {lo = 309} {hi = 312} {m = c.args.m} (omega arith) (omega arith) refl
