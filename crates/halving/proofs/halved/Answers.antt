use mathlib.Core.Path.{◌∙◌, ap}
use lib.IntN.{ℤ, ◌+ℤ◌, +ℤ_idr}
use Rattle.laws.specs.Signed.{modulo}
use Rattle.arithmetic.specs.Whole.{read_as}
use Rattle.halving.specs.Half.{half}
use Rattle.halving.proofs.halved.Goals as goal

pub returns-in-Hadd : goal.returns-in-Hadd
returns-in-Hadd c =
    let a = c.args in
    let w = a.l.bits.count in
    rw c.in-Hadd.is
    (c.half_sum.ensures ∙ ap (λ (z : ℤ). modulo w (half z)) (+ℤ_idr (read_as a.s w a.l.x +ℤ read_as a.s w a.l.y)))
