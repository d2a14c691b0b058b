-- The range of a lane of w bits, and what a saturating operation leaves, which stops at the ends of it.
-- From ARM DDI 0406C, A8.8, VQADD and VQSUB; and document 02, F-1 and F-8.
-- Assumes nothing.
use Rattle.std.specs.Prelude.{Bool, ℕ, ◌-◌, ◌^◌, ℤ, pos, neg_ℤ, ◌+ℤ◌, ◌-ℤ◌}
use Rattle.std.specs.Int.Signed.{lt_z}
use Rattle.laws.specs.Choice.{choose, either}
use Rattle.insn.specs.declared.Sign.{Sign}
use Rattle.insn.specs.declared.Sign.TheVariants.{Unsigned, Signed}
use Rattle.saturating.specs.declared.SaturatingOp.{SaturatingOp}
use Rattle.saturating.specs.declared.SaturatingOp.TheVariants.{Qadd, Qsub}

-- the ends of the range: 0 and 2^w - 1, and in two's complement -2^(w-1) and 2^(w-1) - 1
unfoldable pub lowest : Sign → ℕ → ℤ
lowest Unsigned w = pos 0
lowest Signed w = neg_ℤ (pos (2 ^ (w - 1)))

unfoldable pub highest : Sign → ℕ → ℤ
highest Unsigned w = pos (2 ^ w - 1)
highest Signed w = pos (2 ^ (w - 1) - 1)

-- a whole number, moved to the nearer end of the range when outside it
unfoldable pub clamp : Sign → ℕ → ℤ → ℤ
clamp s w z = choose (lt_z z (lowest s w)) (lowest s w) (choose (lt_z (highest s w) z) (highest s w) z)

-- whether it is outside the range, and so is moved
abbrev pub outside : Sign → ℕ → ℤ → Bool
outside s w z = either (lt_z z (lowest s w)) (lt_z (highest s w) z)

-- the exact result, before it is moved: a and b are the lanes of the sources, as whole numbers
abbrev pub exact_saturating : SaturatingOp → ℤ → ℤ → ℤ
exact_saturating Qadd a b = a +ℤ b
exact_saturating Qsub a b = a -ℤ b
