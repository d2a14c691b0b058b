-- The proof of what specs/Promises.antt states.
-- Assumes nothing.
use mathlib.Core.Path.{refl}
use Prim.Native.Nat.{◌+◌}
use native.Mathlib.Omega.{arith}
use lib.IntN.{pos, ◌+ℤ◌}
use Rattle.arithmetic.proofs.Signs.{le_not_lt}
use Rattle.arithmetic.proofs.Wholes.{up, down}
use Rattle.arithmetic.proofs.Order.{is-plus, less, not-less}
use Rattle.halving.specs.Half.{half}
use Rattle.halving.specs.Promises.{HalfDown}
use Rattle.halving.proofs.Halving.{half_is}

pub half_down : HalfDown
half_down z =
    let h = half z in
    let i = half_is z in
    let n = is-plus h (pos 1) (up h) (down h) 1 0 refl refl in (
      rw (le_not_lt z (h +ℤ h), not-less z (h +ℤ h) (up z) (down z) (up h + up h) (down h + down h) refl (is-plus h h (up h) (down h) (up h) (down h) refl refl) (omega arith)),
      less z (h +ℤ pos 1 +ℤ (h +ℤ pos 1)) (up z) (down z) (up h + 1 + (up h + 1)) (down h + 0 + (down h + 0)) refl
          (is-plus (h +ℤ pos 1) (h +ℤ pos 1) (up h + 1) (down h + 0) (up h + 1) (down h + 0) n n) (omega arith),
    )
