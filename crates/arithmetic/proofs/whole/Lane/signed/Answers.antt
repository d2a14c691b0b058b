use Rattle.std.proofs.Common.{◌-◌, ◌*◌, ◌^◌, ℤ, ap, ◌∙◌, arith, shl_exact, w64, to_z, of_z}
use lib.Signed.{shr_z}
use Rattle.laws.specs.Signed.{twos_complement}
use Rattle.arithmetic.specs.Whole.{read_as}
use Rattle.arithmetic.proofs.Signs.{extended}
use Rattle.arithmetic.proofs.Words.{shift_is}
use Rattle.arithmetic.proofs.whole.Lane.signed.Goals as goal

pub returns : goal.returns
unfolding read_as
returns c =
    let a = c.args.self in
    let w = a.bits.count in
    let z = a.bits.positive in
    let j = 64 - w in
    let y = a.x * 2 ^ j in
    let s = shl_exact w j 64 a.fits (omega arith) in
    ap (λ (z : ℤ). to_z w64 (of_z w64 (shr_z (to_z w64 (of_z w64 z)) (2 ^ j)))) (c.signed_of.ensures ∙ ap (twos_complement 64) s)
    ∙ shift_is 64 y (omega arith) (omega arith) (2 ^ j) (omega arith)
    ∙ extended w a.x z a.bits.within a.fits
