use native.Mathlib.Omega.{arith}
use Rattle.laws.proofs.Signed.{twice_half}
use Rattle.insn.specs.declared.Sign.TheVariants.{Unsigned, Signed}
use Rattle.saturating.proofs.Ends.{top_lane}
use Rattle.saturating.proofs.highest.Goals as goal

pub returns-in-Unsigned : goal.returns-in-Unsigned
returns-in-Unsigned c =
    let a = c.args in
    rw (c.in-Unsigned.is, top_lane Unsigned a.w.count (omega arith)) c.ones.ensures

pub returns-in-Signed : goal.returns-in-Signed
returns-in-Signed c =
    let a = c.args in
    rw (c.in-Signed.is, top_lane Signed a.w.count (omega arith)) (omega (arith, twice_half a.w.count (omega arith)))
