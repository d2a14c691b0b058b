-- Lanes as whole numbers, and whole numbers as lanes, each law over the width.
-- Assumes nothing.
use Rattle.std.proofs.Common.{◌≡◌, ℕ, suc, ◌+◌, ◌-◌, ◌*◌, ◌/◌, ◌%◌, ◌^◌, ◌<◌, ◌≤◌, Bool, true, false, not, ℤ, pos, negsuc, ◌-ℤ◌, sym, refl, ap, ◌∙◌, lt_of_le_of_lt, mul-le-mul_right, mod-lt, mod-eq_of_lt, suc-mul, add-mul, div-add-mod', arith, pow_pos, pow-add, shl_lt, le-ltb, lt-ltb, le-leb}
use native.Mathlib.Nat.{mod-add-mod, add-mod-mod, add-mod_right, add-mul-mod_self_right}
use lib.Pow.{shl-shr, shr_le, high, ones_lt}
use lib.Signed.{mag, lt_z, le_z, shr_z}
use borrow.Author.Tests.{lt-leb}
use Rattle.laws.specs.Choice.{choose}
use Rattle.laws.proofs.Promises.{bits_back}
use Rattle.laws.proofs.Signed.{minus_is, modulo-lt, signed_low, signed_high, signed-fits}
use Rattle.insn.specs.declared.Sign.{Sign}
use Rattle.insn.specs.declared.Sign.TheVariants.{Unsigned, Signed}
use Rattle.arithmetic.specs.Whole.{read_as, ones_if}
use Rattle.laws.specs.Signed.{modulo}
use Rattle.arithmetic.proofs.Numbers.{cut64, cancel, shr-out}
use Rattle.laws.proofs.Tests.{sides}

module _ (w a b : ℕ) where
  minus-up : b ≤ a → modulo w (pos a -ℤ pos b) ≡ (a - b) % 2 ^ w
  unfolding modulo
  minus-up h = rw (minus_is a b, le-ltb a b h)

  pub minus-down : a < b → modulo w (pos a -ℤ pos b) ≡ 2 ^ w - 1 - (b - suc a) % 2 ^ w
  unfolding modulo
  minus-down h = rw (minus_is a b, lt-ltb a b h)

  -- b added again gives a, modulo 2^w
  pub back : (modulo w (pos a -ℤ pos b) + b) % 2 ^ w ≡ a % 2 ^ w
  back =
      sides b a
      (λ h. let t = b - suc a in
      let l = mod-lt t (pow_pos w) in
      let d = div-add-mod' t (2 ^ w) in
      let e : 2 ^ w - 1 - (b - suc a) % 2 ^ w + b ≡ a + (b - suc a) / 2 ^ w * 2 ^ w + 2 ^ w = omega arith in
      rw (minus-down h, e) (add-mod_right (a + t / 2 ^ w * 2 ^ w) (2 ^ w) ∙ add-mul-mod_self_right a (t / 2 ^ w) (2 ^ w)))
      (λ h. let e : a - b + b ≡ a = omega arith in
      rw (minus-up h) (mod-add-mod (a - b) (2 ^ w) b ∙ ap (λ (n : ℕ). n % 2 ^ w) e))

  -- and nothing else does
  pub minus-of : (r : ℕ) → (r + b) % 2 ^ w ≡ a % 2 ^ w → r % 2 ^ w ≡ modulo w (pos a -ℤ pos b)
  minus-of r h = cancel (2 ^ w) (pow_pos w) r (modulo w (pos a -ℤ pos b)) b (h ∙ sym back) ∙ mod-eq_of_lt (modulo-lt w (pos a -ℤ pos b))

-- a difference whose subtrahend was cut at 64 bits
pub minus-cut64 : (w a b : ℕ) → w ≤ 64 → modulo w (pos a -ℤ pos (b % 2 ^ 64)) ≡ modulo w (pos a -ℤ pos b)
minus-cut64 w a b h =
    let z = modulo w (pos a -ℤ pos (b % 2 ^ 64)) in
    sym (mod-eq_of_lt (modulo-lt w (pos a -ℤ pos (b % 2 ^ 64))))
    ∙ minus-of w a b z
    (sym (add-mod-mod z b (2 ^ w)) ∙ ap (λ (n : ℕ). (z + n) % 2 ^ w) (sym (cut64 b w h)) ∙ add-mod-mod z (b % 2 ^ 64) (2 ^ w) ∙ back w a (b % 2 ^ 64))

-- the two forms of a signed lane, by its top bit
module _ (w x : ℕ) where
  pub read_low : x < 2 ^ (w - 1) → read_as Signed w x ≡ pos x
  unfolding read_as
  read_low h = signed_low w x h

  pub read-high : x < 2 ^ w → 2 ^ (w - 1) ≤ x → read_as Signed w x ≡ negsuc (2 ^ w - 1 - x)
  unfolding read_as
  read-high l h = signed_high w x l h

  -- it fits w bits in two's complement
  pub read_fits : 0 < w → x < 2 ^ w → mag (read_as Signed w x) < 2 ^ (w - 1)
  unfolding read_as
  read_fits z l = signed-fits w x z l

-- read by sign and taken modulo 2^w, it is the lane again
pub again : (s : Sign) (w x : ℕ) → x < 2 ^ w → modulo w (read_as s w x) ≡ x
unfolding modulo read_as
again Unsigned w x l = mod-eq_of_lt l
again Signed w x l = bits_back w x l

-- at least is not less
pub le_not_lt : (a b : ℤ) → le_z b a ≡ not (lt_z a b)
le_not_lt (pos a) (pos b) = sides b a (λ h. rw (lt-ltb a b h, lt-leb b a h)) (λ h. rw (le-ltb a b h, le-leb b a h))
le_not_lt (pos a) (negsuc b) = refl
le_not_lt (negsuc a) (pos b) = refl
le_not_lt (negsuc a) (negsuc b) = sides a b (λ h. rw (lt-ltb b a h, lt-leb a b h)) (λ h. rw (le-ltb b a h, le-leb a b h))

-- a mask is a lane already
pub mask : (t : Bool) (w : ℕ) → modulo w (ones_if t w) ≡ choose t (2 ^ w - 1) 0
unfolding modulo ones_if
mask true w = mod-eq_of_lt (ones_lt w)
mask false w = mod-eq_of_lt (pow_pos w)

-- an unsigned lane shifted right
pub right-u : (w x k : ℕ) → x < 2 ^ w → modulo w (shr_z (read_as Unsigned w x) (2 ^ k)) ≡ x / 2 ^ k
unfolding modulo read_as
right-u w x k l = mod-eq_of_lt (lt_of_le_of_lt (shr_le x k) l)

-- past the last place a shift leaves the sign alone
pub shr-far : (z : ℤ) (j k : ℕ) → mag z < 2 ^ j → j ≤ k → shr_z z (2 ^ j) ≡ shr_z z (2 ^ k)
shr-far (pos n) j k l h = rw (shr-out n j j l (omega arith), shr-out n j k l h)
shr-far (negsuc n) j k l h = rw (shr-out n j j l (omega arith), shr-out n j k l h)

-- a lane moved to the top of a word, read there, and shifted back
pub extended : (w x : ℕ) → 0 < w → w ≤ 64 → x < 2 ^ w → shr_z (read_as Signed 64 (x * 2 ^ (64 - w))) (2 ^ (64 - w)) ≡ read_as Signed w x
extended w x z h l =
    let j = 64 - w in
    let e : w - 1 + (64 - w) ≡ 63 = omega arith in
    let g : w + (64 - w) ≡ 64 = omega arith in
    let top : 2 ^ (w - 1) * 2 ^ (64 - w) ≡ 2 ^ 63 = sym (pow-add 2 (w - 1) j) ∙ ap (λ (n : ℕ). 2 ^ n) e in
    let all : 2 ^ w * 2 ^ (64 - w) ≡ 2 ^ 64 = sym (pow-add 2 w j) ∙ ap (λ (n : ℕ). 2 ^ n) g in
    sides (2 ^ (w - 1)) x
    (λ b. let a : x * 2 ^ (64 - w) < 2 ^ 63 = rw e at (shl_lt (w - 1) j b) in
    rw (read_low 64 (x * 2 ^ (64 - w)) a, shl-shr x j, read_low w x b))
    (λ b. let a : 2 ^ 63 ≤ x * 2 ^ (64 - w) = rw top at (mul-le-mul_right (2 ^ j) b) in
    let c : x * 2 ^ (64 - w) < 2 ^ 64 = rw g at (shl_lt w j l) in
    let y = 2 ^ w - 1 - x in
    let s : 2 ^ w ≡ suc (2 ^ w - 1 - x) + x = omega arith in
    let t : 2 ^ w * 2 ^ (64 - w) ≡ (2 ^ w - 1 - x) * 2 ^ (64 - w) + 2 ^ (64 - w) + x * 2 ^ (64 - w) =
    ap (λ (n : ℕ). n * 2 ^ (64 - w)) s ∙ add-mul (suc y) x (2 ^ j) ∙ ap (λ (n : ℕ). n + x * 2 ^ (64 - w)) (suc-mul y (2 ^ j)) in
    let o = pow_pos j in
    let d : 18446744073709551615 - x * 2 ^ (64 - w) ≡ (2 ^ w - 1 - x) * 2 ^ (64 - w) + (2 ^ (64 - w) - 1) = omega arith in
    rw (read-high 64 (x * 2 ^ (64 - w)) c a, d, high y j (ones_lt j), read-high w x l b))
