-- What cannot be, and so gives anything.
-- Assumes nothing.
use mathlib.Core.Path.{◌≡◌, sym, subst}
use mathlib.Core.Bool.{true, false}
use Prim.Native.Nat.{ℕ}
use native.Mathlib.Omega.{arith}
use lib.Dec.{T}

pub never : {A : Type 0} → ◌≡◌ {A = ℕ} 0 1 → A
never e = absurd (let z : ⊥ = omega arith in z)

pub wrong : {A : Type 0} → false ≡ true → A
wrong e = absurd (subst T (sym e) tt)
