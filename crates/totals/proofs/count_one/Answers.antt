use native.Mathlib.Omega.{arith}
use Rattle.totals.proofs.Sorts.{numbered}
use Rattle.totals.proofs.count_one.Goals as goal

pub overflow_add-counts : goal.overflow_add-counts
overflow_add-counts c =
    rw (numbered c.args.s) (omega (arith, c.requires))

pub returns : goal.returns
returns c =
    rw (numbered c.args.s)
