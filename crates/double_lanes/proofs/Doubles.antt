-- The laws of operations between lanes of w and of 2w bits, each over the width.
-- Assumes nothing.
use mathlib.Core.Path.{◌≡◌, refl, sym, ◌∙◌, ap}
use mathlib.Core.Bool.{Bool, true, false}
use Prim.Native.Nat.{ℕ, ◌+◌, ◌-◌, ◌*◌, ◌/◌, ◌%◌, ◌^◌, ◌<◌, ◌≤◌}
use native.Mathlib.Nat.{mod-lt, add-mul, mul_assoc, mul-one, lt_of_lt_of_le}
use native.Mathlib.Omega.{arith}
use lib.IntN.{ℤ, pos, negsuc, ◌*ℤ◌}
use lib.Signed.{shr_z}
use lib.Pow.{pow_pos, pow_mono, field, mod-pow-add, ones_split, ones_sub-lt, high}
use Rattle.laws.specs.Signed.{modulo}
use Rattle.laws.proofs.Signed.{modulo-lt, modulo-pos}
use Rattle.insn.specs.declared.Width.{Width}
use Rattle.insn.specs.declared.Sign.{Sign}
use Rattle.insn.specs.Widths.{size_of, bits_of}
use Rattle.insn.proofs.Sizes.{size-within, lanes}
use Rattle.lanes.specs.Promises.{lane_at}
use Rattle.lanes.proofs.Lanewise.{halves, lanes-lt, same}
use Rattle.arithmetic.specs.Whole.{read_as}
use Rattle.arithmetic.proofs.Modulo.{Congruent, congruent, plus, minus, times}
use Rattle.arithmetic.proofs.Signs.{again}
use Rattle.double_lanes.specs.declared.LongOp.{LongOp}
use Rattle.double_lanes.specs.declared.LongOp.TheVariants as long
use Rattle.double_lanes.specs.declared.WideOp.{WideOp}
use Rattle.double_lanes.specs.declared.WideOp.TheVariants as wide
use Rattle.double_lanes.specs.declared.DoubleOp.{DoubleOp}
use Rattle.double_lanes.specs.declared.NarrowOp.{NarrowOp}
use Rattle.double_lanes.specs.declared.DoubleOp.TheVariants.{Long, Wide, Narrow}
use Rattle.double_lanes.specs.Double.{lengths_of, lane_bits, exact_long, exact_wide, exact_narrow, exact_double, double_lane, double_lanes, double_of}
use Rattle.double_lanes.specs.Halves.{nth_lane, half_of}

-- an operation on numbers that are congruent to the sources
module _ (w x y : ℕ) (a b : ℤ) (p : Congruent w x a) (q : Congruent w y b) where
  pub long-like : (op : LongOp) (d : ℕ) → modulo w (exact_long op (pos d) (pos x) (pos y)) ≡ modulo w (exact_long op (pos d) a b)
  unfolding modulo
  long-like long.Add d = plus w x y a b p q
  long-like long.Sub d = minus w x y a b p q
  long-like long.Mul d = times w x y a b p q
  long-like long.Mla d = plus w d (x * y) (pos d) (a *ℤ b) refl (times w x y a b p q)
  long-like long.Mls d = minus w d (x * y) (pos d) (a *ℤ b) refl (times w x y a b p q)
  long-like long.Mov d = p
  long-like (long.Shl k) d = times w x (2 ^ k) a (pos (2 ^ k)) p refl

  pub wide-like : (op : WideOp) → modulo w (exact_wide op (pos x) (pos y)) ≡ modulo w (exact_wide op a b)
  unfolding modulo
  wide-like wide.Add = plus w x y a b p q
  wide-like wide.Sub = minus w x y a b p q

-- the lane that is left has the target's bits
pub lane-lt : (op : DoubleOp) (w d n m : ℕ) → double_lane op w d n m < 2 ^ lane_bits (lengths_of op).d w
unfolding double_lane
lane-lt op w d n m = modulo-lt (lane_bits (lengths_of op).d w) (exact_double op w d n m)

-- a lane has w or 2w bits, and k lanes as many times that
pub bits-times : (q : Bool) (w c : ℕ) → lane_bits q w * c ≡ lane_bits q (w * c)
bits-times true w c = mul_assoc 2 w c
bits-times false w c = refl

bits_mono : (q : Bool) {a b : ℕ} → a ≤ b → lane_bits q a ≤ lane_bits q b
bits_mono true h = omega arith
bits_mono false h = h

-- a lane of v bits, twice w, has its place where one of w has
pub twice_room : (w v i : ℕ) → v ≡ 2 * w → w * i + w ≤ 32 → v * i + v ≤ 64
twice_room w v i e l = rw (e, mul_assoc 2 w i) (omega arith)

-- what the code does at a lane, by the shape; v is twice w
module _ (w v i d n m r : ℕ) (e : v ≡ 2 * w) where
  pub long_is : (op : LongOp) (s : Sign) (t x y : ℕ) → t ≡ lane_at v i d → x ≡ modulo v (read_as s w (lane_at w i n))
      → y ≡ modulo v (read_as s w (lane_at w i m)) → r ≡ modulo v (exact_long op (pos t) (pos x) (pos y)) → r ≡ nth_lane (Long op s) w i d n m
  unfolding exact_double double_lane
  long_is op s t x y f g h k =
      rw (← e)
      (k ∙ ap (λ (t : ℕ). modulo v (exact_long op (pos t) (pos x) (pos y))) f
      ∙ long-like v x y (read_as s w (lane_at w i n)) (read_as s w (lane_at w i m)) (congruent v x _ g) (congruent v y _ h) op (lane_at v i d))

  pub wide_is : (op : WideOp) (s : Sign) (x y : ℕ) → x ≡ lane_at v i n → y ≡ modulo v (read_as s w (lane_at w i m))
      → r ≡ modulo v (exact_wide op (pos x) (pos y)) → r ≡ nth_lane (Wide op s) w i d n m
  unfolding exact_double double_lane
  wide_is op s x y f h k =
      let z = lane_at v i n in
      let g = again s v z (mod-lt _ (pow_pos v)) in
      rw (← e)
      (k ∙ ap (λ (x : ℕ). modulo v (exact_wide op (pos x) (pos y))) f
      ∙ wide-like v z y (read_as s v z) (read_as s w (lane_at w i m)) (congruent v z _ (sym g)) (congruent v y _ h) op)

  pub narrow_is : (op : NarrowOp) (x y : ℕ) → x ≡ lane_at v i n → y ≡ lane_at v i m
      → r ≡ modulo w (exact_narrow op w (pos x) (pos y)) → r ≡ nth_lane (Narrow op) w i d n m
  unfolding exact_double double_lane
  narrow_is op x y f g k = rw (← e, ← f, ← g) k

-- k lanes of w bits in s bits
pub lanes-below : (op : DoubleOp) (w k s d n m : ℕ) → w * k ≤ s → double_lanes op w k d n m < 2 ^ lane_bits (lengths_of op).d s
unfolding double_lanes
lanes-below op w k s d n m l =
    let q = lengths_of op in
    lt_of_lt_of_le (lanes-lt (double_lane op w) (lane_bits q.d w) (lane_bits q.n w) (lane_bits q.m w) (lane-lt op w) k d n m)
    (pow_mono (rw (bits-times q.d w k) (bits_mono q.d l)))

-- on whole registers it is the operation on their halves, each k lanes, where k lanes of w bits fill 32
pub whole-halves : (op : DoubleOp) (w : Width) (a b c d e g : ℕ) → bits_of w ≤ 32
    → a < 2 ^ lane_bits (lengths_of op).d 32 → c < 2 ^ lane_bits (lengths_of op).n 32 → e < 2 ^ lane_bits (lengths_of op).m 32
    → let q = lengths_of op in
    double_of op w (a + 2 ^ lane_bits q.d 32 * b) (c + 2 ^ lane_bits q.n 32 * d) (e + 2 ^ lane_bits q.m 32 * g)
    ≡ half_of op w a c e + 2 ^ lane_bits q.d 32 * half_of op w b d g
unfolding double_lanes double_of half_of
whole-halves op w a b c d e g short =
    let l = lanes (size_of w) 2 (size-within (size_of w) 2 short) in
    let v = bits_of w in
    let k = 2 ^ (2 - size_of w) in
    let q = lengths_of op in
    let f : (q : Bool) → lane_bits q (bits_of w) * 2 ^ (2 - size_of w) ≡ lane_bits q 32 = λ q. bits-times q v k ∙ ap (lane_bits q) l.fill in
    rw (l.doubled, l.counted)
    (halves (double_lane op v) (lane_bits q.d v) (lane_bits q.n v) (lane_bits q.m v) k (lane_bits q.d 32) (lane_bits q.n 32) (lane_bits q.m 32)
    a b c d e g (f q.d) (f q.n) (f q.m))

-- a shift by 0 is a move
once : (z : ℤ) → z *ℤ pos 1 ≡ z
once (pos n) = rw mul-one
once (negsuc n) = rw mul-one

pub shift_none : (s : Sign) (w : Width) (d n m : ℕ) → double_of (Long (long.Shl 0) s) w d n m ≡ double_of (Long long.Mov s) w d n m
unfolding exact_double double_lane double_lanes double_of
shift_none s w d n m =
    let v = bits_of w in
    same (double_lane (Long (long.Shl 0) s) v) (double_lane (Long long.Mov s) v) (2 * v) v v (64 / v) d n m d n m
    (λ i l. ap (modulo (2 * v)) (once (read_as s v (lane_at v i n))))

-- from bit w on, the low w bits are the high half of 2w bits
pub high-half : (w : ℕ) (z : ℤ) → modulo w (shr_z z (2 ^ w)) ≡ modulo (2 * w) z / 2 ^ w
unfolding modulo
high-half w (pos n) =
    let e : 2 * w ≡ w + w = omega arith in
    rw e (sym (field n w w))
high-half w (negsuc n) =
    let e : 2 * w ≡ w + w = omega arith in
    let q = n / 2 ^ w % 2 ^ w in
    let r = n % 2 ^ w in
    let z = pow_pos w in
    let lq = mod-lt (n / 2 ^ w) z in
    let lr = mod-lt n z in
    let a = 2 ^ w - 1 - q in
    let g : 2 ^ w - 1 ≡ a + q = omega arith in
    let d : (2 ^ w - 1) * 2 ^ w ≡ a * 2 ^ w + q * 2 ^ w = ap (λ (v : ℕ). v * 2 ^ w) g ∙ add-mul a q (2 ^ w) in
    let f : 2 ^ (w + w) - 1 - n % 2 ^ (w + w) ≡ a * 2 ^ w + (2 ^ w - 1 - r) = omega (arith, mod-pow-add n w w, ones_split w w) in
    rw (e, f) (sym (high a w (ones_sub-lt w r)))

-- so that they are those of the 2w bits
pub high-kept : (w : ℕ) (z : ℤ) → modulo w (shr_z (pos (modulo (2 * w) z)) (2 ^ w)) ≡ modulo w (shr_z z (2 ^ w))
high-kept w z =
    high-half w (pos (modulo (2 * w) z)) ∙ ap (λ (x : ℕ). x / 2 ^ w) (modulo-pos (2 * w) (modulo (2 * w) z) (modulo-lt (2 * w) z)) ∙ sym (high-half w z)
