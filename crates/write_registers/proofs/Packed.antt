-- The pair that the code puts together is the family's.
-- Assumes nothing.
use mathlib.Core.Path.{◌≡◌}
use mathlib.Core.Bool.{Bool}
use Prim.Native.Nat.{ℕ, ◌+◌, ◌*◌, ◌/◌, ◌%◌}
use native.Mathlib.Omega.{arith}
use Rattle.fields.specs.Halfwords.{field, first, second}
use Rattle.writings.specs.Forms.{pair, as_bit}
use Rattle.writings.proofs.Pairs.{low, one_bit}
use Rattle.write_registers.specs.Same3.{same3_pair}
use Rattle.write_registers.specs.Diff.{diff_pair}

size_low : (k n : ℕ) → (k % 4 * 16 + n % 16) % 64 ≡ field 1 0 k * 16 + field 3 0 n
size_low k n = omega arith

pub same3_packed : (k : ℕ) (quad : Bool) (d n m : ℕ)
    → pair (first (k / 128 % 2) 0 (d / 16 % 2) ((k % 4 * 16 + n % 16) % 64)) (second (d % 16) (k / 8 % 16) (n / 16 % 2) (as_bit quad % 2) (m / 16 % 2) (k / 4 % 2) (m % 16))
    ≡ same3_pair k quad d n m
unfolding same3_pair
same3_packed k quad d n m = rw (size_low k n, low d, low m, one_bit quad)

pub diff_packed : (k d n m : ℕ)
    → pair (first (k / 64 % 2) 1 (d / 16 % 2) ((k % 4 * 16 + n % 16) % 64)) (second (d % 16) (k / 4 % 16) (n / 16 % 2) 0 (m / 16 % 2) 0 (m % 16))
    ≡ diff_pair k d n m
unfolding diff_pair
diff_packed k d n m = rw (size_low k n, low d, low m)
