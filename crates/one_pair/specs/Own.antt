-- For the contracts of this crate's own functions alone.
-- Assumes nothing.
use Rattle.std.specs.Prelude.{true, ◌≡◌, ℕ, ◌-◌, ◌^◌, ◌<◌, ◌≤◌, eqb, ltb}
use Rattle.laws.specs.Choice.{choose}
use Rattle.tables.specs.Cells.{cell_at}
use Rattle.immediate_tables.specs.Modimm.{modimm}
use Rattle.fields.specs.Halfwords.{bit, field}
use Rattle.one_pair.specs.One.{setting, one_at}

-- what a row op:cmode that sets leaves of its 64-bit pattern: with op 1 all but VMOV.I64 are VMVN
abbrev pub turned : ℕ → ℕ → ℕ
turned row p = choose (ltb row 16) p (choose (eqb row 30) p (2 ^ 64 - 1 - p))

-- a place of a VMOV or a VMVN that leaves v if any place does, and then no higher than any
pub record Covers (v t : ℕ) : Type 0 where
  pub within : t < 8192
  pub named : setting (cell_at modimm (bit 12 t) (field 11 8 t)) ≡ true
  pub lowest : (u : ℕ) → u < 8192 → one_at v u ≡ true → (t ≤ u) × (one_at v t ≡ true)
