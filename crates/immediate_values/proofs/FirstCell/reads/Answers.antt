use mathlib.Core.Bool.{true, false}
use mathlib.Core.Path.{◌≡◌, sym, ◌∙◌}
use Prim.Native.Nat.{ℕ, ◌/◌, ◌%◌, ◌<◌}
use native.Mathlib.Omega.{arith}
use mir.Facts.{to_z-of_z}
use Rattle.homes.proofs.Cells.{modimm-stands}
use Rattle.tables.specs.Cells.{cell_number}
use Rattle.fields.specs.Halfwords.{bit, field}
use Rattle.immediate_values.specs.Immediates.{immediate_reads}
use Rattle.immediate_values.proofs.Immediates.{its-name, other_name, same-cell, other-cell}
use Rattle.immediates.specs.Modified.{zero_refused}
use Rattle.immediate_values.proofs.FirstCell.reads.Goals as goal

low : (t : ℕ) → t % 256 ≡ field 7 0 t
low t = omega arith

top : (t : ℕ) → t < 8192 → t / 256 / 16 ≡ bit 12 t
top t h = omega arith

pub returns-then-ne : goal.returns-then-ne
unfolding immediate_reads
returns-then-ne c =
    let known = (modimm-stands false _ _ c.args.self.home).known in
    let other = other-cell _ _ known (sym c.ne.ensures ∙ c.if-ne.true) in
    rw (other_name _ c.args.t known c.requires (λ e. other (c.cell.ensures.number ∙ e)))

pub returns-then-is_zero_refused : goal.returns-then-is_zero_refused
unfolding immediate_reads
returns-then-is_zero_refused c =
    let t = c.args.t in
    let known = (modimm-stands false _ _ c.args.self.home).known in
    let zero : zero_refused (t / 256 % 16) (t % 256) ≡ true = sym c.is_zero_refused.ensures ∙ c.if-is_zero_refused.true in
    let same : cell_number c.cell.result ≡ c.args.self.mnemonic = same-cell _ _ (sym c.ne.ensures ∙ c.if-ne.false) in
    rw (
      its-name c.args.self.mnemonic t known c.requires (sym c.cell.ensures.number ∙ same),
      ← low t,
      zero,
    )

pub returns : goal.returns
unfolding immediate_reads
returns c =
    let t = c.args.t in
    let known = (modimm-stands false _ _ c.args.self.home).known in
    let taken : zero_refused (t / 256 % 16) (t % 256) ≡ false = sym c.is_zero_refused.ensures ∙ c.if-is_zero_refused.false in
    let same : cell_number c.cell.result ≡ c.args.self.mnemonic = same-cell _ _ (sym c.ne.ensures ∙ c.if-ne.false) in
    rw (
      its-name c.args.self.mnemonic t known c.requires (sym c.cell.ensures.number ∙ same),
      ← low t,
      taken,
      ← top c.args.t c.requires,
      ← c.modimm_operand.ensures,
    )
    (rw (to_z-of_z c.ranges.v) at c.is_value.ensures)
