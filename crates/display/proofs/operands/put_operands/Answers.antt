use mathlib.Core.List.{[], ◌∷◌}
use native.Mathlib.Omega.{arith}
use lib.Seq.{take_all}
use Rattle.display.specs.Operands.{with_commas}
use Rattle.text.proofs.Writes.{then, nothing, widen}
use Rattle.display.proofs.operands.put_operands.Goals as goal

pub returns-then-i-eq0 : goal.returns-then-i-eq0
unfolding with_commas
returns-then-i-eq0 c =
    rw c.if-i-eq0.true (nothing _)

pub returns-then-i-eq1 : goal.returns-then-i-eq1
unfolding with_commas
returns-then-i-eq1 c =
    rw c.if-i-eq1.true (widen (omega arith) c.put_operand.ensures)

pub returns-then-i-eq2 : goal.returns-then-i-eq2
unfolding with_commas
returns-then-i-eq2 c =
    rw c.if-i-eq2.true (widen (omega arith) (then c.put_operand.ensures c.put_next.ensures))

pub returns : goal.returns
unfolding with_commas
returns c =
    let i = c.args.i in
    rw (take_all i.count (i.first ∷ i.second ∷ i.third ∷ []) (omega arith)) (then c.put_operand.ensures (then c.put_next.ensures c.put_next-2.ensures))
