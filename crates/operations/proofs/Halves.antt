-- An operation on 128 bits is the operation on each half.
-- Assumes nothing.
use mathlib.Core.Path.{◌≡◌, refl, ap, ◌∙◌}
use Prim.Native.Nat.{ℕ, ◌+◌, ◌-◌, ◌*◌, ◌/◌, ◌%◌, ◌^◌, ◌<◌}
use native.Mathlib.Nat.{add-zero, add_comm, mul_comm, mul-add, mul-one, add-mul-mod_self_left, add-mul-div_left, mod-eq_of_lt, div-eq_of_lt, zero-add}
use native.Mathlib.Omega.{arith}
use lib.Bits.{bit_and, bit_or, bit_xor, and_block, or_block, xor_block, and_lt, or_lt, xor_lt}
use lib.Pow.{pow_pos}
use Rattle.lanes.proofs.Promises.{row_by_halves, lanes_below}
use Rattle.operations.specs.declared.BitOp.{BitOp}
use Rattle.operations.specs.declared.BitOp.TheVariants.{And, Orr, Eor, Bic, Orn, Mov, Bsl, Bit, Bif}
use Rattle.operations.specs.declared.ConstantOp.{ConstantOp}
use Rattle.operations.specs.declared.ConstantOp.TheVariants as constant
use Rattle.operations.specs.declared.Operation.{Operation}
use Rattle.operations.specs.declared.Operation.TheVariants.{Lanes, Bits, Constant}
use Rattle.arithmetic.specs.Whole.{inverted}
use Rattle.operations.specs.Operations.{bitwise, with_constant, result_of, Sized}

-- x is the quadword of the doublewords l, low, and h
pub record Halves (x l h : ℕ) : Type 0 where
  pub whole : x ≡ l + 2 ^ 64 * h
  pub low : l < 2 ^ 64
  pub high : h < 2 ^ 64

-- the halves of a quadword
pub low_half : {x l h : ℕ} → Halves x l h → x % 2 ^ 64 ≡ l
low_half {x} {l} {h} r = rw r.whole (add-mul-mod_self_left l (2 ^ 64) h ∙ mod-eq_of_lt r.low)

pub high-half : {x l h : ℕ} → Halves x l h → x / 2 ^ 64 ≡ h
high-half {x} {l} {h} r = rw r.whole (add-mul-div_left l h (pow_pos 64) ∙ ap (λ (n : ℕ). n + h) (div-eq_of_lt r.low) ∙ zero-add h)

-- a bitwise function that keeps to blocks of bits
module _ (f : ℕ → ℕ → ℕ) (block : (k a b r s : ℕ) → r < 2 ^ k → s < 2 ^ k → f (a * 2 ^ k + r) (b * 2 ^ k + s) ≡ f a b * 2 ^ k + f r s)
    (small : (k a b : ℕ) → a < 2 ^ k → b < 2 ^ k → f a b < 2 ^ k) where
  by-block : {x a b y c d : ℕ} → Halves x a b → Halves y c d → Halves (f x y) (f a c) (f b d)
  by-block {x} {a} {b} {y} {c} {d} p q = record {
    whole =
        rw (p.whole, q.whole, add_comm a, add_comm c, mul_comm (2 ^ 64) b, mul_comm (2 ^ 64) d, add_comm (f a c), mul_comm (2 ^ 64) (f b d))
        (block 64 b d a c p.low q.low);
    low = small 64 a c p.low q.low;
    high = small 64 b d p.high q.high;
  }

module _ {x a b y c d : ℕ} (p : Halves x a b) (q : Halves y c d) where
  both : Halves (bit_and x y) (bit_and a c) (bit_and b d)
  both = by-block (λ (m n : ℕ). bit_and m n) and_block and_lt p q

  either : Halves (bit_or x y) (bit_or a c) (bit_or b d)
  either = by-block (λ (m n : ℕ). bit_or m n) or_block or_lt p q

  one : Halves (bit_xor x y) (bit_xor a c) (bit_xor b d)
  one = by-block (λ (m n : ℕ). bit_xor m n) xor_block xor_lt p q

-- over any p: omega reads no number of more than 38 digits
turned : (p a b : ℕ) → a < p → b < p → p * p - 1 - (a + p * b) ≡ (p - 1 - a) + p * (p - 1 - b)
turned p a b ha hb =
    let e : p ≡ b + (p - 1 - b) + 1 = omega arith in
    let f : p * (b + (p - 1 - b) + 1) ≡ p * b + p * (p - 1 - b) + p = simp (mul-add, mul-one) in
    let g : p * p ≡ p * b + p * (p - 1 - b) + p = ap (λ (n : ℕ). p * n) e ∙ f in
    omega arith

over : {x a b : ℕ} → Halves x a b → Halves (inverted 128 x) (inverted 64 a) (inverted 64 b)
over {x} {a} {b} p = record {
  whole = ap (λ (n : ℕ). inverted 128 n) p.whole ∙ turned (2 ^ 64) a b p.low p.high;
  low = omega arith;
  high = omega arith;
}

module _ {x a b y c d z e g : ℕ} (p : Halves x a b) (q : Halves y c d) (r : Halves z e g) where
  bits-halves : (op : BitOp) → Halves (bitwise 128 op x y z) (bitwise 64 op a c e) (bitwise 64 op b d g)
  bits-halves And = both q r
  bits-halves Orr = either q r
  bits-halves Eor = one q r
  bits-halves Bic = both q (over r)
  bits-halves Orn = either q (over r)
  bits-halves Mov = q
  bits-halves Bsl = either (both q p) (both r (over p))
  bits-halves Bit = either (both q r) (both p (over r))
  bits-halves Bif = either (both p r) (both q (over r))

  constant-halves : (op : ConstantOp) → Halves (with_constant 128 op y x) (with_constant 64 op c a) (with_constant 64 op d b)
  constant-halves constant.Mov = q
  constant-halves constant.Mvn = over q
  constant-halves constant.Orr = either p q
  constant-halves constant.Bic = both p (over q)

-- two doublewords as one quadword
pub quad : {l h : ℕ} → l < 2 ^ 64 → h < 2 ^ 64 → Halves (l + 2 ^ 64 * h) l h
quad a b = record { whole = refl; low = a; high = b }

pub result-halves : {x a b y c d z e g : ℕ} (op : Operation) → Sized op → Halves x a b → Halves y c d → Halves z e g
    → Halves (result_of 128 op x y z) (result_of 64 op a c e) (result_of 64 op b d g)
unfolding result_of
result-halves {x} {a} {b} {y} {c} {d} {z} {e} {g} (Lanes op w) s p q r = record {
  whole = rw (p.whole, q.whole, r.whole) (row_by_halves op w a b c d e g p.low q.low r.low);
  low = lanes_below 64 op w a c e;
  high = lanes_below 64 op w b d g;
}
result-halves (Bits op) s p q r = bits-halves p q r op
result-halves (Constant op k) s p q r = simp add-zero (constant-halves p (quad s s) (quad s s) op)

-- a doubleword stays one
pub result-lt : (op : Operation) (d n m : ℕ) → Sized op → d < 2 ^ 64 → n < 2 ^ 64 → m < 2 ^ 64 → result_of 64 op d n m < 2 ^ 64
result-lt op d n m s hd hn hm = (result-halves op s (quad hd hd) (quad hn hn) (quad hm hm)).low
