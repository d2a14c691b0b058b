use Rattle.std.proofs.Common.{ℕ, ap, ◌∙◌}
use lib.Bits.{bit_and, and_mask}
use Rattle.arithmetic.proofs.arith.Bits.cut.Goals as goal

pub returns : goal.returns
returns c =
    let a = c.args in
    ap (λ (m : ℕ). bit_and a.v m) c.ones.ensures ∙ and_mask a.v a.self.count
