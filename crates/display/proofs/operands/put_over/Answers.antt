use mathlib.Core.Path.{refl, sym, ap, ◌∙◌}
use Rattle.names.specs.Names.{codes}
use Rattle.laws.specs.Search.{found}
use Rattle.floats.specs.Found.{find_float}
use Rattle.display.specs.Operands.{over_text}
use Rattle.text.proofs.Writes.{then, nothing, respell}
use Rattle.display.proofs.Short.{over-short}
use Rattle.display.proofs.operands.put_over.Goals as goal

pub returns-in-Some : goal.returns-in-Some
unfolding over_text codes
returns-in-Some c =
    let e = sym c.float_imm8.ensures ∙ ap found c.in-Some.is in
    respell {a = 10} refl (over-short (find_float c.args.x))
    (rw (e, ← c.float_k.ensures) (then (then c.put_minus.ensures c.put_five.ensures) c.put_word.ensures))

pub returns-in_default : goal.returns-in_default
unfolding over_text codes
returns-in_default c =
    rw (sym c.float_imm8.ensures ∙ ap found c.in_default.is) (nothing _)
