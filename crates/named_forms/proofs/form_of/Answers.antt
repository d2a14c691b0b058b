use mathlib.Core.Path.{refl}
use Rattle.forms.specs.declared.Form.TheVariants.{Copy}
use Rattle.forms.proofs.Numbered.{numbered, form_at, one, no_more}
use Rattle.named_forms.proofs.form_of.Goals as goal

pub returns-then-m-eq-VMOV : goal.returns-then-m-eq-VMOV
unfolding numbered form_at
returns-then-m-eq-VMOV c = one {f = Copy} 345 refl c.if-m-eq-VMOV.true

pub returns : goal.returns
returns c =
    no_more _ c.if-m-lt-VMOV.false c.if-m-eq-VMOV.false
