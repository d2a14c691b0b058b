-- The withheld names by their numbers: antt computes it at each mnemonic.
-- Assumes nothing.
use mathlib.Core.Path.{◌≡◌, refl}
use mathlib.Core.Bool.{Bool, true}
use Prim.Native.Nat.{ℕ}
use lib.Dec.{eqb}
use native.Mathlib.Omega.{arith}
use borrow.Author.Tests.{ne_eqb}
use Rattle.laws.specs.Choice.{choose}
use Rattle.laws.proofs.Range.{values}
use Rattle.insn.specs.declared.Edition.TheVariants.{B}
use Rattle.names.specs.Names.{names, name_of}
use Rattle.names.proofs.Known.{at_every}
use Rattle.editions.specs.Editions.{withholds}

-- vfma.f32 is mnemonic 79, and vfms.f32 80
abbrev pub is_fused_number : ℕ → Bool
is_fused_number m = choose (eqb m 79) true (eqb m 80)

pub by_number : (m : ℕ) → is_fused_number m ≡ withholds B (name_of m)
unfolding values names name_of
by_number = at_every is_fused_number (withholds B) refl (λ m h. rw (ne_eqb m 79 (λ k. omega arith), ne_eqb m 80 (λ k. omega arith)))
