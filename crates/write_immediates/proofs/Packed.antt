-- The pair that the code puts together is the family's.
-- Assumes nothing.
use mathlib.Core.Path.{◌≡◌, refl, ◌∙◌}
use mathlib.Core.Bool.{Bool}
use Prim.Native.Nat.{ℕ, ◌+◌, ◌*◌, ◌/◌, ◌%◌}
use native.Mathlib.Omega.{arith}
use Rattle.laws.proofs.Range.{values, agree}
use Rattle.insn.specs.Widths.{size_of, width_at}
use Rattle.tables.specs.declared.ShiftClass.{ShiftClass}
use Rattle.tables.specs.declared.ShiftClass.TheVariants.{Right, Left, Narrow, Long, Convert}
use Rattle.fields.specs.Halfwords.{bit, field, first, second}
use Rattle.writings.specs.Forms.{pair, as_bit}
use Rattle.writings.proofs.Pairs.{low, one_bit}
use Rattle.write_immediates.specs.Shift.{shift_pair, bit_b, vshll_cell}
use Rattle.write_immediates.specs.Modimm.{modimm_pair}

b_bit : (class : ShiftClass) (quad : Bool) (k : ℕ) → bit_b class quad k % 2 ≡ bit_b class quad k
b_bit Right quad k = one_bit quad
b_bit Left quad k = one_bit quad
b_bit Narrow quad k = omega arith
b_bit Long quad k = omega arith
b_bit Convert quad k = one_bit quad

pub shift_packed : (class : ShiftClass) (k : ℕ) (quad : Bool) (t d m : ℕ)
    → pair (first (k / 128 % 2) 1 (d / 16 % 2) (t % 64)) (second (d % 16) (k / 8 % 16) (t / 64 % 2) (bit_b class quad k % 2) (m / 16 % 2) 1 (m % 16))
    ≡ shift_pair k (bit_b class quad k) t d m
unfolding shift_pair
shift_packed class k quad t d m = let six : t % 64 ≡ field 5 0 t = omega arith in rw (six, low d, low m, b_bit class quad k)

-- i and imm3 from imm8, the low byte of op:cmode:imm8
top : (t : ℕ) → t % 256 / 128 % 2 ≡ bit 7 t
top t = omega arith

upper : (t : ℕ) → t % 256 / 16 ≡ t / 16 % 16
upper t = omega arith

three : (x : ℕ) → x % 16 % 8 % 64 ≡ x % 8
three x = omega arith

pub modimm_packed : (t : ℕ) (quad : Bool) (d : ℕ)
    → pair (first (t % 256 / 128 % 2) 1 (d / 16 % 2) (t % 256 / 16 % 8 % 64)) (second (d % 16) (t / 256 % 16) 0 (as_bit quad % 2) (t / 256 / 16 % 2) 1 (t % 256 % 16))
    ≡ modimm_pair t quad d
unfolding modimm_pair
modimm_packed t quad d =
    let op : t / 256 / 16 % 2 ≡ bit 12 t = omega arith in
    let imm4 : t % 256 % 16 ≡ field 3 0 t = omega arith in
    rw (top t, upper t, three (t / 16), op, imm4, low d, one_bit quad)

-- the width in a column, and the cell of VSHLL in the code's terms
pub size_back : (k : ℕ) → size_of (width_at (k % 4)) ≡ field 1 0 k
unfolding values
size_back k = let same : k % 4 ≡ field 1 0 k = omega arith in agree (λ (c : ℕ). size_of (width_at c)) (λ (c : ℕ). c) 4 refl (k % 4) (omega arith) ∙ same

pub its_cell : (k : ℕ) → k / 4 % 2 * 128 + 80 + k % 4 ≡ vshll_cell k
its_cell k = omega arith
