use mathlib.Core.Path.{refl, ap, ◌∙◌}
use Prim.Native.Nat.{ℕ, ◌-◌}
use native.Mathlib.Omega.{arith}
use Rattle.laws.proofs.Range.{values}
use Rattle.insn.specs.declared.Sign.TheVariants.{Unsigned, Signed}
use Rattle.insn.specs.Widths.{width_at}
use Rattle.forms.specs.declared.Direction.TheVariants as way
use Rattle.forms.specs.declared.Form.TheVariants.{Shift, Extend, Nothing}
use Rattle.forms.proofs.Numbered.{numbered, form_at, stretch}
use Rattle.named_forms.proofs.shift_form.Goals as goal

pub returns-in-0-to-176 : goal.returns-in-0-to-176
unfolding values numbered form_at
returns-in-0-to-176 c =
    ap (Shift (way.Right Signed)) c.width_at.ensures ∙ stretch (λ (m : ℕ). Shift (way.Right Signed) (width_at (m - 173))) {lo = 173} {hi = 177} {m = c.args.m} (omega arith) (omega arith) refl

pub returns-in-177-to-188 : goal.returns-in-177-to-188
unfolding values numbered form_at
returns-in-177-to-188 c =
    stretch (λ (m : ℕ). Nothing) {lo = 177} {hi = 189} {m = c.args.m} (omega arith) (omega arith) refl

pub returns-in-189-to-192 : goal.returns-in-189-to-192
unfolding values numbered form_at
returns-in-189-to-192 c =
    ap (Shift way.Left) c.width_at-in-189-to-192.ensures ∙ stretch (λ (m : ℕ). Shift way.Left (width_at (m - 189))) {lo = 189} {hi = 193} {m = c.args.m} (omega arith) (omega arith) refl

pub returns-in-193-to-195 : goal.returns-in-193-to-195
unfolding values numbered form_at
returns-in-193-to-195 c =
    ap (Shift way.Narrow) c.width_at-in-193-to-195.ensures ∙ stretch (λ (m : ℕ). Shift way.Narrow (width_at (m - 193))) {lo = 193} {hi = 196} {m = c.args.m} (omega arith) (omega arith) refl

pub returns-in-196-to-204 : goal.returns-in-196-to-204
unfolding values numbered form_at
returns-in-196-to-204 c =
    stretch (λ (m : ℕ). Nothing) {lo = 196} {hi = 205} {m = c.args.m} (omega arith) (omega arith) refl

pub returns-in-205-to-207 : goal.returns-in-205-to-207
unfolding values numbered form_at
returns-in-205-to-207 c =
    ap (Shift (way.Long Signed)) c.width_at-in-205-to-207.ensures ∙ stretch (λ (m : ℕ). Shift (way.Long Signed) (width_at (m - 205))) {lo = 205} {hi = 208} {m = c.args.m} (omega arith) (omega arith) refl

pub returns-in-208-to-209 : goal.returns-in-208-to-209
unfolding values numbered form_at
returns-in-208-to-209 c =
    stretch (λ (m : ℕ). Nothing) {lo = 208} {hi = 210} {m = c.args.m} (omega arith) (omega arith) refl

pub returns-in-210-to-213 : goal.returns-in-210-to-213
unfolding values numbered form_at
returns-in-210-to-213 c =
    ap (Shift (way.Right Unsigned)) c.width_at-in-210-to-213.ensures ∙ stretch (λ (m : ℕ). Shift (way.Right Unsigned) (width_at (m - 210))) {lo = 210} {hi = 214} {m = c.args.m} (omega arith) (omega arith) refl

pub returns-in-214-to-249 : goal.returns-in-214-to-249
unfolding values numbered form_at
returns-in-214-to-249 c =
    stretch (λ (m : ℕ). Nothing) {lo = 214} {hi = 250} {m = c.args.m} (omega arith) (omega arith) refl

pub returns-in-250-to-252 : goal.returns-in-250-to-252
unfolding values numbered form_at
returns-in-250-to-252 c =
    ap (Shift (way.Long Unsigned)) c.width_at-in-250-to-252.ensures ∙ stretch (λ (m : ℕ). Shift (way.Long Unsigned) (width_at (m - 250))) {lo = 250} {hi = 253} {m = c.args.m} (omega arith) (omega arith) refl

pub returns-in-253-to-254 : goal.returns-in-253-to-254
unfolding values numbered form_at
returns-in-253-to-254 c =
    stretch (λ (m : ℕ). Nothing) {lo = 253} {hi = 255} {m = c.args.m} (omega arith) (omega arith) refl

pub returns-in-255-to-257 : goal.returns-in-255-to-257
unfolding values numbered form_at
returns-in-255-to-257 c =
    ap (Extend Signed) c.width_at-in-255-to-257.ensures ∙ stretch (λ (m : ℕ). Extend Signed (width_at (m - 255))) {lo = 255} {hi = 258} {m = c.args.m} (omega arith) (omega arith) refl

pub returns-in_default : goal.returns-in_default
unfolding values numbered form_at
returns-in_default c =
    ap (Extend Unsigned) c.width_at-in_default.ensures ∙ stretch (λ (m : ℕ). Extend Unsigned (width_at (m - 258))) {lo = 258} {hi = 261} {m = c.args.m} (omega arith) (omega arith) refl
