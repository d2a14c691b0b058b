use Rattle.std.proofs.Common.{◌^◌, ℤ, sym, ap, ◌∙◌, arith, w64, to_z, of_z}
use lib.Signed.{shr_z}
use Rattle.arithmetic.specs.Whole.{read_as}
use Rattle.laws.specs.Signed.{modulo}
use Rattle.insn.specs.declared.Sign.TheVariants.{Signed}
use Rattle.arithmetic.proofs.Numbers.{shr-out}
use Rattle.arithmetic.proofs.Signs.{right-u, shr-far}
use Rattle.arithmetic.proofs.Words.{lane-fits, shift_is}
use Rattle.arithmetic.proofs.whole.Lane.right.Goals as goal

pub returns-then-k-lt64 : goal.returns-then-k-lt64
returns-then-k-lt64 c =
    let a = c.args.self in
    rw c.in-Unsigned.is (sym (right-u a.bits.count a.x c.args.k a.fits))

pub returns-else-k-lt64 : goal.returns-else-k-lt64
returns-else-k-lt64 c =
    let a = c.args.self in
    let k = c.args.k in
    rw c.in-Unsigned.is (sym (right-u a.bits.count a.x k a.fits ∙ shr-out a.x a.bits.count k a.fits (omega arith)))

pub returns-else-k-lt64-2 : goal.returns-else-k-lt64-2
returns-else-k-lt64-2 c =
    let a = c.args.self in
    let w = a.bits.count in
    rw c.in-Signed.is
    (c.lane_of-else-k-lt64-2.ensures
    ∙ ap (λ (z : ℤ). modulo w (to_z w64 (of_z w64 (shr_z (to_z w64 (of_z w64 z)) (2 ^ 63))))) c.signed-else-k-lt64-2.ensures
    ∙ ap (modulo w)
    (shift_is w a.x a.bits.positive a.bits.within (2 ^ 63) a.fits
    ∙ shr-far (read_as Signed w a.x) 63 c.args.k (lane-fits w a.x a.bits.positive a.bits.within a.fits).sfits (omega arith)))
