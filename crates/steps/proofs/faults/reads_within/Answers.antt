use Rattle.steps.proofs.Kept.{kind-small}
use Rattle.steps.proofs.ReadRows.{reads-told}
use Rattle.steps.proofs.faults.reads_within.Goals as goal

pub returns : goal.returns
returns c =
    let s = c.args.s in
    rw c.values_of-v.ensures
    (reads-told s.step c.args.set s.step.kind _ _ _ (kind-small s.step s.kept) c.has_row-a.ensures c.has_row-b.ensures c.has_row-c.ensures)
