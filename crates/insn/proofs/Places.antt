-- What stands at a place of a record past its count.
-- Assumes nothing.
use mathlib.Core.Path.{◌≡◌}
use Prim.Native.Nat.{ℕ, ◌≤◌}
use borrow.Author.Tests.{le-ltb}
use Rattle.insn.specs.declared.Operand.TheVariants.{Absent}
use Rattle.insn.specs.declared.Insn.{Insn}
use Rattle.insn.specs.Record.{place_at}

-- from the count on it is absent
pub past : (i : Insn) (k : ℕ) → i.count ≤ k → Absent ≡ place_at i k
unfolding place_at
past i k h = rw (le-ltb k i.count h)
