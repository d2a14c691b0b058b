-- A promise beyond the contract; proofs/Promises.antt proves it under its name.
-- Assumes nothing.
use Rattle.std.specs.Prelude.{true, ◌≡◌, ℕ, ◌<◌, ℤ}
use Rattle.tables.specs.declared.ShiftClass.{ShiftClass}
use Rattle.fields.specs.Halfwords.{bit, field}
use Rattle.amount_values.specs.Amounts.{amount_reads}

-- at most one L:imm6 is read as a column and an amount
abbrev pub AmountOnce : Type 0
AmountOnce =
    (class : ShiftClass) (column : ℕ) (v : ℤ) (t u : ℕ) → t < 128 → u < 128
    → amount_reads class column v (bit 6 t) (field 5 0 t) ≡ true → amount_reads class column v (bit 6 u) (field 5 0 u) ≡ true → t ≡ u
