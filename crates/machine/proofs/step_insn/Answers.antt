use mathlib.Core.Path.{sym, ap, ◌∙◌}
use Rattle.laws.specs.Answer.{accepted}
use Rattle.meanings.specs.Answers.{act_of}
use Rattle.meanings.specs.declared.Action.{Action}
use Rattle.meanings.proofs.Actions.{meant}
use Rattle.machine.proofs.step_insn.Goals as goal

pub perform-requires : goal.perform-requires
perform-requires c =
    (meant c.args.i _ (sym c.in_ok-op.ensures ∙ ap (λ (x : Action). accepted (act_of x)) c.in-Does.is)).within

pub perform_unlike-requires : goal.perform_unlike-requires
perform_unlike-requires c =
    let m = meant c.args.i _ (sym c.in_ok-op.ensures ∙ ap (λ (x : Action). accepted (act_of x)) c.in-Doubles.is) in
    (m.within, m.sound)
