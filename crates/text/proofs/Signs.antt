-- A number that 64 bits hold: its text by its sign and its size.
-- Assumes nothing.
use mathlib.Core.Path.{◌≡◌, refl, ap}
use mathlib.Core.Bool.{Bool}
use mathlib.Core.List.{◌++◌}
use Prim.Native.Nat.{suc, ◌≤◌}
use native.Mathlib.Omega.{arith}
use lib.IntN.{ℤ, pos, negsuc, nat_abs}
use lib.ListN.{length}
use lib.Signed.{lt_z}
use borrow.Author.Tests.{lt-leb}
use mir.Syntax.{w64}
use mir.Val.{SFits}
use Rattle.text.specs.Text.{decimal, minus, signed_decimal}
use Rattle.text.proofs.Decimal.{within}

pub signed-text : (v : ℤ) → minus (lt_z v (pos 0)) ++ decimal (nat_abs v) ≡ signed_decimal v
unfolding minus signed_decimal
signed-text (pos n) = ap (λ (b : Bool). minus b ++ decimal n) (lt-leb (suc n) 0 (omega arith))
signed-text (negsuc n) = refl

pub signed-short : {v : ℤ} → SFits w64 v → length (signed_decimal v) ≤ 20
unfolding signed_decimal
signed-short {v = pos n} f = omega (arith, within 18 n (omega arith))
signed-short {v = negsuc n} f = omega (arith, within 18 (suc n) (omega arith))
