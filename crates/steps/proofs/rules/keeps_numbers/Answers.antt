use Rattle.steps.specs.Rules.{uses_of}
use Rattle.steps.proofs.Columns.{numbers-tested}
use Rattle.steps.proofs.rules.keeps_numbers.Goals as goal

pub returns : goal.returns
returns c =
    rw (c.values_of-v.ensures, c.amounts-limit.ensures, c.keeps_word-high.ensures, c.keeps_word-low.ensures)
    (numbers-tested (uses_of c.args.s.kind) c.args.s)
