-- What a spelling is read as.
-- Assumes nothing.
use mathlib.Core.Path.{◌≡◌}
use mathlib.Core.Bool.{true, false, not}
use Prim.Native.Nat.{ℕ}
use lib.Dec.{eqb}
use lib.Text.{eqt}
use borrow.Author.Tests.{eq-eqb}
use Rattle.insn.specs.declared.Operand.{Operand}
use Rattle.names.specs.Names.{name_of}
use Rattle.laws.specs.Choice.{both}
use Rattle.trips.specs.Spelling.{Spelling, same_register, is_zero, moved_name, renamed, canonical}
use Rattle.laws.proofs.Tests.{both-no}

module _ (m count : ℕ) (a b c : Operand) where
  abbrev pub spelt : Spelling
  spelt = record { mnemonic = m; count = count; first = a; second = b; third = c }

  pub as-spelt : both (eqt (name_of m) "vorr") (same_register b c) ≡ false → both (not (eqt (moved_name (name_of m)) "")) (is_zero c) ≡ false
      → canonical spelt ≡ spelt
  unfolding canonical
  as-spelt e z = rw (e, z, both-no (eqb count 3))

  pub as-vmov : count ≡ 3 → both (eqt (name_of m) "vorr") (same_register b c) ≡ true → canonical spelt ≡ renamed "vmov" spelt
  unfolding canonical
  as-vmov n e = rw (eq-eqb count 3 n, e)

  pub as-vmovl : count ≡ 3 → both (eqt (name_of m) "vorr") (same_register b c) ≡ false
      → both (not (eqt (moved_name (name_of m)) "")) (is_zero c) ≡ true → canonical spelt ≡ renamed (moved_name (name_of m)) spelt
  unfolding canonical
  as-vmovl n e z = rw (e, both-no (eqb count 3), eq-eqb count 3 n, z)
