use Rattle.steps.specs.Rules.{uses_of}
use Rattle.steps.proofs.Columns.{rows-tested}
use Rattle.steps.proofs.rules.keeps_rows.Goals as goal

pub returns : goal.returns
returns c = rw c.values_of-v.ensures (rows-tested (uses_of c.args.s.kind) c.args.s)
