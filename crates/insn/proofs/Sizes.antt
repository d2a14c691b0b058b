-- A width has 8 × 2^size bits, so that each fills every longer one.
-- Assumes nothing.
use mathlib.Core.Path.{◌≡◌, refl, sym, ◌∙◌, ap}
use mathlib.Core.Bool.{Bool, true, false}
use Prim.Native.Nat.{ℕ, suc, ◌+◌, ◌-◌, ◌*◌, ◌/◌, ◌^◌, ◌≤◌, ◌<◌}
use native.Mathlib.Nat.{mul-add, mul_assoc, mul-div_cancel_left, mul-le-mul_left}
use native.Mathlib.Omega.{arith}
use lib.Dec.{ltb, lit≤}
use lib.Pow.{pow_pos, pow_mono, pow-add}
use borrow.Author.Tests.{ltb-true, ltb-false}
use Rattle.insn.specs.declared.Width.{Width}
use Rattle.insn.specs.declared.Width.TheVariants.{B8, B16, B32, B64}
use Rattle.insn.specs.Widths.{bits_at, size_of}

-- there are four sizes
pub size-le : (w : Width) → size_of w ≤ 3
size-le B8 = lit≤ tt
size-le B16 = lit≤ tt
size-le B32 = lit≤ tt
size-le B64 = lit≤ tt

pub bits_pos : (s : ℕ) → 0 < bits_at s
bits_pos s = omega (arith, pow_pos s)

pub at-most-64 : {s : ℕ} → s ≤ 3 → bits_at s ≤ 64
at-most-64 h = mul-le-mul_left 8 (pow_mono h)

-- where the bits are at most those of a size, so is the size
pub size-within : (s t : ℕ) → bits_at s ≤ bits_at t → s ≤ t
size-within s t h = go (ltb t s) refl
  where
    go : (b : Bool) → ltb t s ≡ b → s ≤ t
    go true e = absurd (let p : 2 ^ suc t ≤ 2 ^ s = pow_mono (ltb-true t s e) in let q = pow_pos t in let z : ⊥ = omega (arith, pow-add 2 1 t) in z)
    go false e = ltb-false t s e

-- 8 × 2^t bits are k lanes of 8 × 2^s, and twice as many bits 2k
pub record Lanes (s t k : ℕ) : Type 0 where
  pub fill : bits_at s * k ≡ bits_at t
  pub counted : bits_at t / bits_at s ≡ k
  pub doubled : bits_at (suc t) / bits_at s ≡ k + k

pub lanes : (s t : ℕ) → s ≤ t → Lanes s t (2 ^ (t - s))
lanes s t h =
    let k = 2 ^ (t - s) in
    let e : s + (t - s) ≡ t = omega arith in
    let f : bits_at s * 2 ^ (t - s) ≡ bits_at t = mul_assoc 8 (2 ^ s) k ∙ ap (λ (n : ℕ). 8 * n) (sym (pow-add 2 s (t - s)) ∙ ap (λ (n : ℕ). 2 ^ n) e) in
    let g : bits_at s * (2 ^ (t - s) + 2 ^ (t - s)) ≡ bits_at (suc t) = omega (arith, mul-add (bits_at s) k k, pow-add 2 1 t) in
    let many : (n size : ℕ) → bits_at s * n ≡ size → size / bits_at s ≡ n = λ n size q. ap (λ (x : ℕ). x / bits_at s) (sym q) ∙ mul-div_cancel_left n (bits_pos s) in
    record { fill = f; counted = many k (bits_at t) f; doubled = many (k + k) (bits_at (suc t)) g }
