use mathlib.Core.Path.{sym}
use Prim.Native.Nat.{◌-◌}
use native.Mathlib.Omega.{arith}
use lib.Pow.{pow_pos}
use Rattle.laws.proofs.Signed.{twice_half}
use Rattle.insn.specs.declared.Sign.TheVariants.{Unsigned, Signed}
use Rattle.saturating.proofs.Ends.{bottom-lane}
use Rattle.saturating.proofs.lowest.Goals as goal

pub returns-in-Unsigned : goal.returns-in-Unsigned
returns-in-Unsigned c =
    let a = c.args in
    rw c.in-Unsigned.is (sym (bottom-lane Unsigned a.w.count (omega arith)))

pub returns-in-Signed : goal.returns-in-Signed
returns-in-Signed c =
    let a = c.args in
    rw (c.in-Signed.is, bottom-lane Signed a.w.count (omega arith))
    (omega (arith, twice_half a.w.count (omega arith), pow_pos (a.w.count - 1)))
