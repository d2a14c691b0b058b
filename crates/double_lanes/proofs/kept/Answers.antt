use Rattle.std.proofs.Common.{◌^◌, sym, arith}
use native.Mathlib.Nat.{zero-mod}
use Rattle.laws.specs.Signed.{modulo}
use Rattle.arithmetic.proofs.Numbers.{shr-out}
use Rattle.double_lanes.proofs.kept.Goals as goal

pub returns-then-k-lt64 : goal.returns-then-k-lt64
unfolding modulo
returns-then-k-lt64 c =
    c.cut.ensures

pub returns-else-k-lt64 : goal.returns-else-k-lt64
unfolding modulo
returns-else-k-lt64 c =
    let a = c.args in
    rw (shr-out a.x 64 a.k (omega arith) (omega arith)) (sym (zero-mod (2 ^ a.w.count)))
