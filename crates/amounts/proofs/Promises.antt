-- The promises of specs/Promises.antt.
-- Assumes nothing.
use mathlib.Core.Path.{◌≡◌, refl}
use mathlib.Core.Bool.{Bool, true, false}
use Prim.Native.Nat.{ℕ, ◌/◌, ◌%◌, ◌<◌}
use native.Mathlib.Omega.{arith}
use lib.Dec.{leb, ltb}
use borrow.Author.Tests.{ltb-true, leb-true}
use Rattle.laws.specs.Choice.{choose}
use Rattle.laws.proofs.Range.{values, agree2}
use Rattle.tables.specs.declared.ShiftClass.TheVariants.{Right, Left}
use Rattle.insn.specs.Widths.{bits_at}
use Rattle.amounts.specs.Shifts.{is_escape, right_end, left_start, amount_of, size_code}
use Rattle.amounts.specs.Promises.{RightAmounts, LeftAmounts, ConvertAmounts}

-- a test that holds at every L and imm6 that encode an element size
sized : (t : ℕ → ℕ → Bool) → values (λ (k : ℕ). choose (is_escape (k / 64) (k % 64)) true (t (k / 64) (k % 64))) 0 128 ≡ values (λ (k : ℕ). true) 0 128
    → (l imm6 : ℕ) → l < 2 → imm6 < 64 → is_escape l imm6 ≡ false → t l imm6 ≡ true
sized t e l imm6 hl hi k = rw k at (agree2 (λ (l i : ℕ). choose (is_escape l i) true (t l i)) (λ (l i : ℕ). true) 2 64 e l imm6 hl hi)

pub right_amounts : RightAmounts
unfolding values is_escape size_code right_end
right_amounts l imm6 hl hi k = (
  leb-true 1 (amount_of Right l imm6) (sized (λ (l i : ℕ). leb 1 (amount_of Right l i)) refl l imm6 hl hi k),
  leb-true (amount_of Right l imm6) (bits_at (size_code l imm6)) (sized (λ (l i : ℕ). leb (amount_of Right l i) (bits_at (size_code l i))) refl l imm6 hl hi k),
)

pub left_amounts : LeftAmounts
unfolding values is_escape size_code left_start
left_amounts l imm6 hl hi k = ltb-true (amount_of Left l imm6) (bits_at (size_code l imm6)) (sized (λ (l i : ℕ). ltb (amount_of Left l i) (bits_at (size_code l i))) refl l imm6 hl hi k)

pub convert_amounts : ConvertAmounts
convert_amounts l imm6 lo hi = (omega arith, omega arith)
