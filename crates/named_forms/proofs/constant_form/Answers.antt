use mathlib.Core.Path.{refl}
use Prim.Native.Nat.{ℕ}
use native.Mathlib.Omega.{arith}
use Rattle.laws.proofs.Range.{values}
use Rattle.insn.specs.declared.Width.TheVariants.{B64}
use Rattle.forms.specs.declared.Form.TheVariants.{Number}
use Rattle.operations.specs.declared.ConstantOp.TheVariants.{Mov}
use Rattle.forms.proofs.Numbered.{numbered, form_at, one, stretch}
use Rattle.named_forms.proofs.constant_form.Goals as goal

pub returns-in-261 : goal.returns-in-261
unfolding values numbered form_at
returns-in-261 c =
    one 261 refl c.in-261.is

pub returns-in-262 : goal.returns-in-262
unfolding values numbered form_at
returns-in-262 c =
    one 262 refl c.in-262.is

pub returns-in-263 : goal.returns-in-263
unfolding values numbered form_at
returns-in-263 c =
    one 263 refl c.in-263.is

pub returns-in-264 : goal.returns-in-264
unfolding values numbered form_at
returns-in-264 c =
    one 264 refl c.in-264.is

pub returns-in-265 : goal.returns-in-265
unfolding values numbered form_at
returns-in-265 c =
    one 265 refl c.in-265.is

pub returns-in-266 : goal.returns-in-266
unfolding values numbered form_at
returns-in-266 c =
    one 266 refl c.in-266.is

pub returns-in-267 : goal.returns-in-267
unfolding values numbered form_at
returns-in-267 c =
    one 267 refl c.in-267.is

pub returns-in-268 : goal.returns-in-268
unfolding values numbered form_at
returns-in-268 c =
    one 268 refl c.in-268.is

pub returns-in-269 : goal.returns-in-269
unfolding values numbered form_at
returns-in-269 c =
    one 269 refl c.in-269.is

pub returns-in-270 : goal.returns-in-270
unfolding values numbered form_at
returns-in-270 c =
    one 270 refl c.in-270.is

pub returns-in_default : goal.returns-in_default
unfolding values numbered form_at
returns-in_default c =
    stretch (λ (m : ℕ). Number Mov B64) {lo = 271} {hi = 272} {m = c.args.m} (omega arith) (omega arith) refl
