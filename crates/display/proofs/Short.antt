-- A float's text has at most 9 bytes.
-- Assumes nothing.
use mathlib.Core.Path.{refl}
use mathlib.Core.Bool.{Bool, true, false}
use Prim.Native.Nat.{ℕ, ◌+◌, ◌/◌, ◌%◌, ◌^◌, ◌<◌, ◌≤◌}
use native.Mathlib.Nat.{mul-le-mul}
use native.Mathlib.Omega.{arith}
use lib.Dec.{leb}
use lib.ListN.{length, length-append}
use borrow.Author.Tests.{leb-true}
use Rattle.laws.specs.Search.{Found, at, none}
use Rattle.laws.proofs.Range.{values, agree}
use Rattle.names.specs.Names.{codes}
use Rattle.floats.specs.Floats.{k_of}
use Rattle.text.specs.Text.{minus}
use Rattle.text.proofs.Decimal.{within}
use Rattle.display.specs.Operands.{over_text}

k-small : (b : ℕ) → k_of b < 10 ^ 4
unfolding values
k-small b =
    let p : 2 ^ ((b / 16 + 4) % 8) ≤ 128 = leb-true (2 ^ ((b / 16 + 4) % 8)) 128 (agree (λ (k : ℕ). leb (2 ^ k) 128) (λ (k : ℕ). true) 8 refl ((b / 16 + 4) % 8) (omega arith)) in
    let q : 16 + b % 16 ≤ 31 = omega arith in
    omega (arith, mul-le-mul q p)

minus-short : (b : Bool) → length (minus b) ≤ 1
unfolding minus
minus-short true = omega arith
minus-short false = omega arith

pub over-short : (f : Found) → length (over_text f) ≤ 9
unfolding over_text codes
over-short (at b) =
    rw (length-append, length-append) (omega (arith, minus-short (leb 128 b), within 3 (k_of b) (k-small b)))
over-short none = omega arith
