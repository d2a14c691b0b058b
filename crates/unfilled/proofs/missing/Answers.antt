use mathlib.Core.Path.{sym}
use Rattle.steps.proofs.Kept.{kind-small}
use Rattle.unfilled.proofs.Finding.{reads-searched}
use Rattle.unfilled.proofs.missing.Goals as goal

pub returns-then-lacks : goal.returns-then-lacks
returns-then-lacks c =
    rw (
      reads-searched c.args.s.step c.args.filled c.args.s.step.kind (kind-small c.args.s.step c.args.s.kept),
      rw c.values_of-v.ensures at (sym c.if-lacks.ensures),
    )

pub returns-then-lacks-2 : goal.returns-then-lacks-2
returns-then-lacks-2 c =
    rw (
      reads-searched c.args.s.step c.args.filled c.args.s.step.kind (kind-small c.args.s.step c.args.s.kept),
      rw c.values_of-v.ensures at (sym c.if-lacks.ensures),
      rw c.values_of-v.ensures at (sym c.if-lacks-2.ensures),
    )

pub returns-then-lacks-3 : goal.returns-then-lacks-3
returns-then-lacks-3 c =
    rw (
      reads-searched c.args.s.step c.args.filled c.args.s.step.kind (kind-small c.args.s.step c.args.s.kept),
      rw c.values_of-v.ensures at (sym c.if-lacks.ensures),
      rw c.values_of-v.ensures at (sym c.if-lacks-2.ensures),
      rw c.values_of-v.ensures at (sym c.if-lacks-3.ensures),
    )

pub returns : goal.returns
returns c =
    rw (
      reads-searched c.args.s.step c.args.filled c.args.s.step.kind (kind-small c.args.s.step c.args.s.kept),
      rw c.values_of-v.ensures at (sym c.if-lacks.ensures),
      rw c.values_of-v.ensures at (sym c.if-lacks-2.ensures),
      rw c.values_of-v.ensures at (sym c.if-lacks-3.ensures),
    )
