use mathlib.Core.Path.{◌≡◌}
use native.Mathlib.Omega.{arith}
use lib.ListN.{length}
use borrow.Author.Rules.{rules}
use Rattle.runs.proofs.Copies.{more, whole}
use Rattle.runs.proofs.store.Goals as goal

pub loop-k-preserved : goal.loop-k-preserved
loop-k-preserved c =
    let l = c.loop-k in
    let e : length c.args.file.now ≡ 32 = search rules in
    (search rules, more c.args.file.now l.lent l.k (omega arith) (omega arith) l.invariant.1)

pub returns : goal.returns
returns c =
    whole _ _ 32 c.loop-k.k (search rules) (omega arith) (omega arith) c.loop-k.invariant.1
