-- Two floats of a format that compare equal are the same, where one is not zero; and no immediate's float is zero.
-- Assumes nothing.
use mathlib.Core.Path.{◌≡◌, refl, sym, ap, ◌∙◌, subst}
use mathlib.Core.Bool.{Bool, true, false, ◌&&◌, ◌||◌, beq}
use Prim.Native.Nat.{ℕ, zero, suc, ◌*◌, ◌%◌, ◌^◌, ◌<◌}
use native.Mathlib.Nat.{mul-one, mul-pos, zero-lt-suc, pow-succ', lt_irrefl, zero-mul}
use native.Mathlib.Omega.{arith}
use lib.Dec.{T, eqb, leb, ltb, eqb→eq, eqb-suc-zero}
use lib.IntN.{ℤ, pos, negsuc}
use lib.Ieee.{Float, nan, inf, fin, Format, binary64, prec, low, emax, up, down, fits, eq}
use lib.Ieee.Fits.{and_l, and_r, up_pos, down_pos}
use Rattle.laws.proofs.Range.{values, agree}
use Rattle.floats.specs.Floats.{float_of}

even_odd : (m t : ℕ) → m % 2 ≡ 1 → m ≡ 2 * t → ⊥
even_odd m t o h = omega arith

-- the odd part and the power of two of a number
odd_pow : (m n a b : ℕ) → m % 2 ≡ 1 → n % 2 ≡ 1 → m * 2 ^ a ≡ n * 2 ^ b → (m ≡ n) × (a ≡ b)
odd_pow m n zero zero o p h = (omega arith, refl)
odd_pow m n zero (suc b) o p h = absurd (even_odd m (n * 2 ^ b) o (omega (arith, ap (λ (z : ℕ). n * z) (pow-succ' 2 b))))
odd_pow m n (suc a) zero o p h = absurd (even_odd n (m * 2 ^ a) p (omega (arith, ap (λ (z : ℕ). m * z) (pow-succ' 2 a))))
odd_pow m n (suc a) (suc b) o p h =
    let e : m * 2 ^ a ≡ n * 2 ^ b = omega (arith, ap (λ (z : ℕ). m * z) (pow-succ' 2 a), ap (λ (z : ℕ). n * z) (pow-succ' 2 b)) in
    let r = odd_pow m n a b o p e in
    (r.0, ap suc r.1)

-- an odd m at the exponent e is n at d: the cross products decide both
parts : (m n : ℕ) (e d : ℤ) → m % 2 ≡ 1 → n % 2 ≡ 1 → m * up e * down d ≡ n * up d * down e → (m ≡ n) × (e ≡ d)
parts m n (pos a) (pos b) o p h =
    let r = odd_pow m n a b o p (omega arith) in (r.0, ap pos r.1)
parts m n (pos a) (negsuc b) o p h =
    absurd (even_odd n (m * 2 ^ a * 2 ^ b) p (omega (arith, ap (λ (z : ℕ). m * 2 ^ a * z) (pow-succ' 2 b))))
parts m n (negsuc a) (pos b) o p h =
    absurd (even_odd m (n * 2 ^ b * 2 ^ a) o (omega (arith, ap (λ (z : ℕ). n * 2 ^ b * z) (pow-succ' 2 a))))
parts m n (negsuc a) (negsuc b) o p h =
    let r = odd_pow m n (suc b) (suc a) o p (rw (mul-one, mul-one) at h) in
    (r.0, ap negsuc (suc_inj (sym r.1)))
  where
    suc_inj : {x y : ℕ} → suc x ≡ suc y → x ≡ y
    suc_inj e = omega arith

is_odd : (f : Format) (s : Bool) (m : ℕ) (e : ℤ) → T (fits f (fin s (suc m) e)) → suc m % 2 ≡ 1
unfolding fits
is_odd f s m e t =
    let a = eqb (suc m % 2) 1 in
    let b = ltb (suc m) (2 ^ prec f) in
    let c = leb (down e) (2 ^ low f) in
    eqb→eq (suc m % 2) 1 (and_l a b (and_l (a && b) c (and_l (a && b && c) (ltb (suc m * up e) (2 ^ suc (emax f) * down e)) t)))

sign : (s t : Bool) (a : ℕ) → 0 < a → T (beq s t || eqb a 0) → s ≡ t
sign s t zero h k = absurd (lt_irrefl 0 h)
sign true true (suc a) h k = refl
sign false false (suc a) h k = refl
sign true false (suc a) h k = absurd (subst T (eqb-suc-zero a) k)
sign false true (suc a) h k = absurd (subst T (eqb-suc-zero a) k)

positive : (m : ℕ) (e d : ℤ) → 0 < suc m * up e * down d
positive m e d = mul-pos (mul-pos (zero-lt-suc m) (up_pos e)) (down_pos d)

pub same : (f : Format) (s : Bool) (m : ℕ) (e : ℤ) (y : Float) → T (fits f (fin s (suc m) e)) → T (fits f y) → T (eq (fin s (suc m) e) y) → fin s (suc m) e ≡ y
unfolding eq
same f s m e nan p q h = absurd h
same f s m e (inf t) p q h = absurd h
same f s m e (fin t zero d) p q h =
    let a = suc m * up e * down d in
    let k = eqb→eq a (zero * up d * down e) (and_l (eqb a (zero * up d * down e)) (beq s t || eqb a 0) h) in
    absurd (lt_irrefl 0 (subst (λ (z : ℕ). 0 < z) (k ∙ rw (zero-mul, zero-mul)) (positive m e d)))
same f s m e (fin t (suc n) d) p q h =
    let a = suc m * up e * down d in
    let b = suc n * up d * down e in
    let k = eqb→eq a b (and_l (eqb a b) (beq s t || eqb a 0) h) in
    let r = parts (suc m) (suc n) e d (is_odd f s m e p) (is_odd f t n d q) k in
    let g = sign s t a (positive m e d) (and_r (eqb a b) (beq s t || eqb a 0) h) in
    λ i. fin (g i) (r.0 i) (r.1 i)

-- no immediate's float is zero, and each is written in the one way
shape : Float → Bool
unfolding fits
shape nan = false
shape (inf s) = false
shape (fin s zero e) = false
shape (fin s (suc m) e) = fits binary64 (fin s (suc m) e)

shaped : (b : ℕ) → b < 256 → shape (float_of b) ≡ true
unfolding values float_of shape
shaped = agree (λ (b : ℕ). shape (float_of b)) (λ (b : ℕ). true) 256 refl

by_shape : (x y : Float) → T (shape x) → T (fits binary64 y) → T (eq x y) → x ≡ y
unfolding shape
by_shape nan y t q h = absurd t
by_shape (inf s) y t q h = absurd t
by_shape (fin s zero e) y t q h = absurd t
by_shape (fin s (suc m) e) y t q h = same binary64 s m e y t q h

-- a float that compares equal to an immediate's is that float
pub only : (b : ℕ) (y : Float) → b < 256 → fits binary64 y ≡ true → eq (float_of b) y ≡ true → float_of b ≡ y
only b y l q h = by_shape (float_of b) y (subst T (sym (shaped b l)) tt) (subst T (sym q) tt) (subst T (sym h) tt)
