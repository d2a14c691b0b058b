use Rattle.std.proofs.Common.{ℕ, ◌%◌, ◌^◌, ℤ, ap, ◌∙◌, w64, of_z}
use mir.ValLaws.{to_z-of_z}
use Rattle.arithmetic.proofs.Words.{low_bits}
use Rattle.arithmetic.proofs.arith.Bits.lane_of.Goals as goal

pub returns : goal.returns
returns c =
    let a = c.args in
    let w = a.self.count in
    c.cut.ensures
    ∙ ap (λ (n : ℕ). n % 2 ^ w) (c.cast_unsigned.ensures ∙ ap (λ (z : ℤ). of_z w64 z) (to_z-of_z w64 a.z c.ranges.z))
    ∙ low_bits w a.self.within a.z c.ranges.z
