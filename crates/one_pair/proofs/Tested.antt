-- A place and its imm8, tested.
-- Assumes nothing.
use mathlib.Core.Path.{◌≡◌, sym, ◌∙◌}
use mathlib.Core.Bool.{true, false}
use Prim.Native.Nat.{ℕ, ◌/◌, ◌%◌, ◌<◌}
use native.Mathlib.Omega.{arith}
use lib.Dec.{eqb}
use Rattle.laws.specs.Answer.{accepted, refused}
use Rattle.laws.proofs.Tests.{both-no}
use Rattle.tables.specs.Cells.{cell_at}
use Rattle.immediate_tables.specs.Modimm.{modimm}
use Rattle.fields.specs.Halfwords.{bit, field}
use Rattle.immediates.specs.Modified.{expand_imm, zero_refused}
use Rattle.immediate_values.proofs.Immediates.{row_of}
use Rattle.one_pair.specs.One.{setting, is_one, one_at}
use Rattle.one_pair.specs.Own.{turned}
use Rattle.one_pair.proofs.Rows.{by_row, leaves-row}

module _ (v t : ℕ) (h : t < 8192) where
  abbrev k : ℕ
  k = t / 256

  pub refused-zero : zero_refused (k % 16) (t % 256) ≡ true → false ≡ one_at v t
  unfolding is_one
  refused-zero z = sym (by_row v t h ∙ rw (z, both-no))

  pub no-pattern : (n : ℕ) → expand_imm (k / 16) (k % 16) (t % 256) ≡ refused n → false ≡ one_at v t
  unfolding is_one
  no-pattern n x = sym (by_row v t h ∙ rw (x, both-no, both-no))

  pub by-pattern : setting (cell_at modimm (bit 12 t) (field 11 8 t)) ≡ true → zero_refused (k % 16) (t % 256) ≡ false
      → (p q : ℕ) → expand_imm (k / 16) (k % 16) (t % 256) ≡ accepted p → q ≡ turned k p → eqb q v ≡ one_at v t
  unfolding is_one
  by-pattern named z p q x e =
      let n = rw (row_of t h) at named in
      sym (by_row v t h ∙ rw (n, z, x, leaves-row k p (omega arith) n, ← e))
