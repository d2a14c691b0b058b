use Rattle.std.proofs.Common.{true, false, sym, ◌∙◌}
use Rattle.arithmetic.proofs.Signs.{mask}
use Rattle.arithmetic.proofs.arith.Bits.ones_if.Goals as goal

pub returns-then-t : goal.returns-then-t
returns-then-t c =
    rw c.if-t.true (c.ones.ensures ∙ sym (mask true c.args.self.count))

pub returns-else-t : goal.returns-else-t
returns-else-t c =
    rw c.if-t.false (sym (mask false c.args.self.count))
