use native.Mathlib.Omega.{arith}
use borrow.Author.Rules.{rules}
use Rattle.runs.proofs.Copies.{more, whole}
use Rattle.runs.proofs.load.Goals as goal

pub loop-k-preserved : goal.loop-k-preserved
loop-k-preserved c =
    let l = c.loop-k in
    (search rules, more c.args.lent.now l.file l.k (omega arith) (omega arith) l.invariant.1)

pub returns : goal.returns
returns c =
    whole _ _ 32 c.loop-k.k (omega arith) (omega arith) (omega arith) c.loop-k.invariant.1
