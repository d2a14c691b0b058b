-- Two's complement of 64 bits, as the library's casts have it.
-- Assumes nothing.
use mathlib.Core.Path.{◌≡◌, sym, ◌∙◌}
use Prim.Native.Nat.{ℕ, suc, ◌-◌, ◌^◌, ◌<◌}
use native.Mathlib.Omega.{arith}
use lib.IntN.{ℤ, pos, negsuc}
use mir.Syntax.{w64}
use mir.Val.{SFits, to_z, of_z}
use mir.Facts.{to_z_pos, to_z-neg}
use Rattle.laws.specs.Signed.{twos_complement, modulo}
use Rattle.laws.proofs.Signed.{modulo-pos, modulo-neg, signed_low, signed_high}
use Rattle.laws.proofs.Tests.{sides}

pub signed_is : (p : ℕ) → p < 2 ^ 64 → to_z w64 p ≡ twos_complement 64 p
signed_is p h =
    sides (2 ^ 63) p
    (λ l. to_z_pos w64 l ∙ sym (signed_low 64 p l))
    (λ l. let e : 2 ^ 64 - suc (2 ^ 64 - 1 - p) ≡ p = omega arith in
    rw e at (to_z-neg w64 (2 ^ 64 - 1 - p) (omega arith)) ∙ sym (signed_high 64 p h l))

pub pattern_is : (v : ℤ) → SFits w64 v → of_z w64 v ≡ modulo 64 v
pattern_is (pos n) f = sym (modulo-pos 64 n (omega arith))
pattern_is (negsuc n) f = let e : 2 ^ 64 - suc n ≡ 2 ^ 64 - 1 - n = omega arith in e ∙ sym (modulo-neg 64 n (omega arith))
