-- A pair's halfwords, and the low parts of the fields that the code puts together.
-- Assumes nothing.
use mathlib.Core.Path.{◌≡◌, refl}
use mathlib.Core.Bool.{Bool, true, false}
use Prim.Native.Nat.{ℕ, ◌%◌}
use native.Mathlib.Omega.{arith}
use Rattle.fields.specs.Halfwords.{field}
use Rattle.writings.specs.Forms.{Pair, pair, as_bit}

abbrev pub hw1_of : Pair → ℕ
hw1_of (pair a b) = a

abbrev pub hw2_of : Pair → ℕ
hw2_of (pair a b) = b

pub low : (d : ℕ) → d % 16 ≡ field 3 0 d
low d = omega arith

pub one_bit : (b : Bool) → as_bit b % 2 ≡ as_bit b
one_bit true = refl
one_bit false = refl
