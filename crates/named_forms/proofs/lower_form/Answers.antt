use mathlib.Core.Path.{refl, ◌∙◌}
use Prim.Native.Nat.{ℕ, ◌-◌}
use native.Mathlib.Omega.{arith}
use Rattle.laws.proofs.Range.{values}
use Rattle.saturating.specs.declared.SaturatingOp.TheVariants.{Qadd, Qsub}
use Rattle.halving.specs.declared.HalvingOp.TheVariants.{Hadd, Rhadd, Hsub}
use Rattle.lanes.specs.declared.LaneOp.TheVariants.{Add, Mul, Mla, Max, Min, Cgt, Cge, Tst, Saturating, Halving}
use Rattle.insn.specs.declared.Sign.TheVariants.{Unsigned, Signed}
use Rattle.insn.specs.Widths.{width_at}
use Rattle.forms.specs.declared.Form.TheVariants.{Lanes, Nothing}
use Rattle.forms.proofs.Numbered.{numbered, form_at, one, stretch}
use Rattle.named_forms.proofs.lower_form.Goals as goal

pub returns-in-10 : goal.returns-in-10
unfolding values numbered form_at
returns-in-10 c =
    one 10 refl c.in-10.is

pub returns-in-11 : goal.returns-in-11
unfolding values numbered form_at
returns-in-11 c =
    one 11 refl c.in-11.is

pub returns-in-12 : goal.returns-in-12
unfolding values numbered form_at
returns-in-12 c =
    one 12 refl c.in-12.is

pub returns-in-13 : goal.returns-in-13
unfolding values numbered form_at
returns-in-13 c =
    one 13 refl c.in-13.is

pub returns-in-0-to-2 : goal.returns-in-0-to-2
unfolding values numbered form_at
returns-in-0-to-2 c =
    c.lanes_at.ensures ∙ stretch (λ (m : ℕ). Lanes (Halving Hadd Signed) (width_at m)) {lo = 0} {hi = 3} {m = c.args.m} (omega arith) (omega arith) refl

pub returns-in-3-to-6 : goal.returns-in-3-to-6
unfolding values numbered form_at
returns-in-3-to-6 c =
    c.lanes_at-in-3-to-6.ensures ∙ stretch (λ (m : ℕ). Lanes (Saturating Qadd Signed) (width_at (m - 3))) {lo = 3} {hi = 7} {m = c.args.m} (omega arith) (omega arith) refl

pub returns-in-7-to-9 : goal.returns-in-7-to-9
unfolding values numbered form_at
returns-in-7-to-9 c =
    c.lanes_at-in-7-to-9.ensures ∙ stretch (λ (m : ℕ). Lanes (Halving Rhadd Signed) (width_at (m - 7))) {lo = 7} {hi = 10} {m = c.args.m} (omega arith) (omega arith) refl

pub returns-in-14-to-16 : goal.returns-in-14-to-16
unfolding values numbered form_at
returns-in-14-to-16 c =
    c.lanes_at-in-14-to-16.ensures ∙ stretch (λ (m : ℕ). Lanes (Halving Hsub Signed) (width_at (m - 14))) {lo = 14} {hi = 17} {m = c.args.m} (omega arith) (omega arith) refl

pub returns-in-17-to-20 : goal.returns-in-17-to-20
unfolding values numbered form_at
returns-in-17-to-20 c =
    c.lanes_at-in-17-to-20.ensures ∙ stretch (λ (m : ℕ). Lanes (Saturating Qsub Signed) (width_at (m - 17))) {lo = 17} {hi = 21} {m = c.args.m} (omega arith) (omega arith) refl

pub returns-in-21-to-23 : goal.returns-in-21-to-23
unfolding values numbered form_at
returns-in-21-to-23 c =
    c.lanes_at-in-21-to-23.ensures ∙ stretch (λ (m : ℕ). Lanes (Cgt Signed) (width_at (m - 21))) {lo = 21} {hi = 24} {m = c.args.m} (omega arith) (omega arith) refl

pub returns-in-24-to-26 : goal.returns-in-24-to-26
unfolding values numbered form_at
returns-in-24-to-26 c =
    c.lanes_at-in-24-to-26.ensures ∙ stretch (λ (m : ℕ). Lanes (Cge Signed) (width_at (m - 24))) {lo = 24} {hi = 27} {m = c.args.m} (omega arith) (omega arith) refl

pub returns-in-27-to-42 : goal.returns-in-27-to-42
unfolding values numbered form_at
returns-in-27-to-42 c =
    stretch (λ (m : ℕ). Nothing) {lo = 27} {hi = 43} {m = c.args.m} (omega arith) (omega arith) refl

pub returns-in-43-to-45 : goal.returns-in-43-to-45
unfolding values numbered form_at
returns-in-43-to-45 c =
    c.lanes_at-in-43-to-45.ensures ∙ stretch (λ (m : ℕ). Lanes (Max Signed) (width_at (m - 43))) {lo = 43} {hi = 46} {m = c.args.m} (omega arith) (omega arith) refl

pub returns-in-46-to-48 : goal.returns-in-46-to-48
unfolding values numbered form_at
returns-in-46-to-48 c =
    c.lanes_at-in-46-to-48.ensures ∙ stretch (λ (m : ℕ). Lanes (Min Signed) (width_at (m - 46))) {lo = 46} {hi = 49} {m = c.args.m} (omega arith) (omega arith) refl

pub returns-in-49-to-54 : goal.returns-in-49-to-54
unfolding values numbered form_at
returns-in-49-to-54 c =
    stretch (λ (m : ℕ). Nothing) {lo = 49} {hi = 55} {m = c.args.m} (omega arith) (omega arith) refl

pub returns-in-55-to-58 : goal.returns-in-55-to-58
unfolding values numbered form_at
returns-in-55-to-58 c =
    c.lanes_at-in-55-to-58.ensures ∙ stretch (λ (m : ℕ). Lanes Add (width_at (m - 55))) {lo = 55} {hi = 59} {m = c.args.m} (omega arith) (omega arith) refl

pub returns-in-59-to-61 : goal.returns-in-59-to-61
unfolding values numbered form_at
returns-in-59-to-61 c =
    c.lanes_at-in-59-to-61.ensures ∙ stretch (λ (m : ℕ). Lanes Tst (width_at (m - 59))) {lo = 59} {hi = 62} {m = c.args.m} (omega arith) (omega arith) refl

pub returns-in-62-to-64 : goal.returns-in-62-to-64
unfolding values numbered form_at
returns-in-62-to-64 c =
    c.lanes_at-in-62-to-64.ensures ∙ stretch (λ (m : ℕ). Lanes Mla (width_at (m - 62))) {lo = 62} {hi = 65} {m = c.args.m} (omega arith) (omega arith) refl

pub returns-in-65-to-67 : goal.returns-in-65-to-67
unfolding values numbered form_at
returns-in-65-to-67 c =
    c.lanes_at-in-65-to-67.ensures ∙ stretch (λ (m : ℕ). Lanes Mul (width_at (m - 65))) {lo = 65} {hi = 68} {m = c.args.m} (omega arith) (omega arith) refl

pub returns-in-68-to-89 : goal.returns-in-68-to-89
unfolding values numbered form_at
returns-in-68-to-89 c =
    stretch (λ (m : ℕ). Nothing) {lo = 68} {hi = 90} {m = c.args.m} (omega arith) (omega arith) refl

pub returns-in-90-to-92 : goal.returns-in-90-to-92
unfolding values numbered form_at
returns-in-90-to-92 c =
    c.lanes_at-in-90-to-92.ensures ∙ stretch (λ (m : ℕ). Lanes (Halving Hadd Unsigned) (width_at (m - 90))) {lo = 90} {hi = 93} {m = c.args.m} (omega arith) (omega arith) refl

pub returns-in-93-to-96 : goal.returns-in-93-to-96
unfolding values numbered form_at
returns-in-93-to-96 c =
    c.lanes_at-in-93-to-96.ensures ∙ stretch (λ (m : ℕ). Lanes (Saturating Qadd Unsigned) (width_at (m - 93))) {lo = 93} {hi = 97} {m = c.args.m} (omega arith) (omega arith) refl

pub returns-in_default : goal.returns-in_default
unfolding values numbered form_at
returns-in_default c =
    c.lanes_at-in_default.ensures ∙ stretch (λ (m : ℕ). Lanes (Halving Rhadd Unsigned) (width_at (m - 97))) {lo = 97} {hi = 100} {m = c.args.m} (omega arith) (omega arith) refl
