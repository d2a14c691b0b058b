use mathlib.Core.Path.{refl, ◌∙◌}
use Prim.Native.Nat.{ℕ, ◌-◌}
use native.Mathlib.Omega.{arith}
use Rattle.laws.proofs.Range.{values}
use Rattle.saturating.specs.declared.SaturatingOp.TheVariants.{Qsub}
use Rattle.halving.specs.declared.HalvingOp.TheVariants.{Hsub}
use Rattle.lanes.specs.declared.LaneOp.TheVariants.{Sub, Mls, Max, Min, Cgt, Cge, Ceq, Saturating, Halving}
use Rattle.insn.specs.declared.Sign.TheVariants.{Unsigned}
use Rattle.insn.specs.Widths.{width_at}
use Rattle.forms.specs.declared.Form.TheVariants.{Lanes, Bits, Nothing}
use Rattle.operations.specs.declared.BitOp.TheVariants.{Eor}
use Rattle.forms.proofs.Numbered.{numbered, form_at, one, stretch}
use Rattle.named_forms.proofs.upper_form.Goals as goal

pub returns-in-101 : goal.returns-in-101
unfolding values numbered form_at
returns-in-101 c =
    one 101 refl c.in-101.is

pub returns-in-102 : goal.returns-in-102
unfolding values numbered form_at
returns-in-102 c =
    one 102 refl c.in-102.is

pub returns-in-103 : goal.returns-in-103
unfolding values numbered form_at
returns-in-103 c =
    one 103 refl c.in-103.is

pub returns-in-0-to-100 : goal.returns-in-0-to-100
unfolding values numbered form_at
returns-in-0-to-100 c =
    stretch (λ (m : ℕ). Bits Eor) {lo = 100} {hi = 101} {m = c.args.m} (omega arith) (omega arith) refl

pub returns-in-104-to-106 : goal.returns-in-104-to-106
unfolding values numbered form_at
returns-in-104-to-106 c =
    c.lanes_at.ensures ∙ stretch (λ (m : ℕ). Lanes (Halving Hsub Unsigned) (width_at (m - 104))) {lo = 104} {hi = 107} {m = c.args.m} (omega arith) (omega arith) refl

pub returns-in-107-to-110 : goal.returns-in-107-to-110
unfolding values numbered form_at
returns-in-107-to-110 c =
    c.lanes_at-in-107-to-110.ensures ∙ stretch (λ (m : ℕ). Lanes (Saturating Qsub Unsigned) (width_at (m - 107))) {lo = 107} {hi = 111} {m = c.args.m} (omega arith) (omega arith) refl

pub returns-in-111-to-113 : goal.returns-in-111-to-113
unfolding values numbered form_at
returns-in-111-to-113 c =
    c.lanes_at-in-111-to-113.ensures ∙ stretch (λ (m : ℕ). Lanes (Cgt Unsigned) (width_at (m - 111))) {lo = 111} {hi = 114} {m = c.args.m} (omega arith) (omega arith) refl

pub returns-in-114-to-116 : goal.returns-in-114-to-116
unfolding values numbered form_at
returns-in-114-to-116 c =
    c.lanes_at-in-114-to-116.ensures ∙ stretch (λ (m : ℕ). Lanes (Cge Unsigned) (width_at (m - 114))) {lo = 114} {hi = 117} {m = c.args.m} (omega arith) (omega arith) refl

pub returns-in-117-to-132 : goal.returns-in-117-to-132
unfolding values numbered form_at
returns-in-117-to-132 c =
    stretch (λ (m : ℕ). Nothing) {lo = 117} {hi = 133} {m = c.args.m} (omega arith) (omega arith) refl

pub returns-in-133-to-135 : goal.returns-in-133-to-135
unfolding values numbered form_at
returns-in-133-to-135 c =
    c.lanes_at-in-133-to-135.ensures ∙ stretch (λ (m : ℕ). Lanes (Max Unsigned) (width_at (m - 133))) {lo = 133} {hi = 136} {m = c.args.m} (omega arith) (omega arith) refl

pub returns-in-136-to-138 : goal.returns-in-136-to-138
unfolding values numbered form_at
returns-in-136-to-138 c =
    c.lanes_at-in-136-to-138.ensures ∙ stretch (λ (m : ℕ). Lanes (Min Unsigned) (width_at (m - 136))) {lo = 136} {hi = 139} {m = c.args.m} (omega arith) (omega arith) refl

pub returns-in-139-to-144 : goal.returns-in-139-to-144
unfolding values numbered form_at
returns-in-139-to-144 c =
    stretch (λ (m : ℕ). Nothing) {lo = 139} {hi = 145} {m = c.args.m} (omega arith) (omega arith) refl

pub returns-in-145-to-148 : goal.returns-in-145-to-148
unfolding values numbered form_at
returns-in-145-to-148 c =
    c.lanes_at-in-145-to-148.ensures ∙ stretch (λ (m : ℕ). Lanes Sub (width_at (m - 145))) {lo = 145} {hi = 149} {m = c.args.m} (omega arith) (omega arith) refl

pub returns-in-149-to-151 : goal.returns-in-149-to-151
unfolding values numbered form_at
returns-in-149-to-151 c =
    c.lanes_at-in-149-to-151.ensures ∙ stretch (λ (m : ℕ). Lanes Ceq (width_at (m - 149))) {lo = 149} {hi = 152} {m = c.args.m} (omega arith) (omega arith) refl

pub returns-in-152-to-154 : goal.returns-in-152-to-154
unfolding values numbered form_at
returns-in-152-to-154 c =
    c.lanes_at-in-152-to-154.ensures ∙ stretch (λ (m : ℕ). Lanes Mls (width_at (m - 152))) {lo = 152} {hi = 155} {m = c.args.m} (omega arith) (omega arith) refl

pub returns-in_default : goal.returns-in_default
unfolding values numbered form_at
returns-in_default c =
    stretch (λ (m : ℕ). Nothing) {lo = 155} {hi = 173} {m = c.args.m} (omega arith) (omega arith) refl
