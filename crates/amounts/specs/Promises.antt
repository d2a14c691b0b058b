-- Promises beyond the contracts; proofs/Promises.antt proves each under its name.
-- Assumes nothing.
use Rattle.std.specs.Prelude.{false, ◌≡◌, ℕ, ◌<◌, ◌≤◌}
use Rattle.tables.specs.declared.ShiftClass.TheVariants.{Right, Left, Convert}
use Rattle.insn.specs.Widths.{bits_at}
use Rattle.amounts.specs.Shifts.{is_escape, size_code, amount_of}

-- where L and imm6 encode an element size, a right (or narrowing) amount is 1 to its bits, and a left (or lengthening) one below them
abbrev pub RightAmounts : Type 0
RightAmounts =
    (l imm6 : ℕ) → l < 2 → imm6 < 64 → is_escape l imm6 ≡ false
    → (1 ≤ amount_of Right l imm6) × (amount_of Right l imm6 ≤ bits_at (size_code l imm6))

abbrev pub LeftAmounts : Type 0
LeftAmounts = (l imm6 : ℕ) → l < 2 → imm6 < 64 → is_escape l imm6 ≡ false → amount_of Left l imm6 < bits_at (size_code l imm6)

-- a conversion's amount is 1 to 32, where imm6 is not below 32
abbrev pub ConvertAmounts : Type 0
ConvertAmounts = (l imm6 : ℕ) → 32 ≤ imm6 → imm6 < 64 → (1 ≤ amount_of Convert l imm6) × (amount_of Convert l imm6 ≤ 32)
