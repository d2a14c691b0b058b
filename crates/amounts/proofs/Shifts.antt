-- The element size that L and imm6 encode: at most 64 bits.
-- Assumes nothing.
use mathlib.Core.Path.{◌≡◌, refl}
use mathlib.Core.Bool.{Bool, true, false}
use Prim.Native.Nat.{ℕ, ◌*◌, ◌%◌, ◌^◌, ◌<◌}
use native.Mathlib.Omega.{arith}
use lib.Dec.{eqb}
use Rattle.laws.specs.Choice.{choose}
use Rattle.laws.proofs.Range.{values, agree}
use Rattle.fields.specs.Halfwords.{bit}
use Rattle.amounts.specs.Shifts.{size_code}
use Rattle.insn.specs.Widths.{bits_at}

pub code_lt : (l imm6 : ℕ) → size_code l imm6 < 4
unfolding size_code
code_lt l imm6 = go (eqb l 0) (eqb (bit 5 imm6) 1) (eqb (bit 4 imm6) 1)
  where
    go : (a b c : Bool) → choose a (choose b 2 (choose c 1 0)) 3 < 4
    go true true c = omega arith
    go true false true = omega arith
    go true false false = omega arith
    go false b c = omega arith

-- 8 shifted left by the code is its bits, with none lost
pub shifted : (k : ℕ) → k < 4 → 8 * 2 ^ k % 256 ≡ bits_at k
unfolding values
shifted = agree (λ (k : ℕ). 8 * 2 ^ k % 256) bits_at 4 refl
