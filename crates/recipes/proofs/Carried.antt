-- The amounts that a sheet's pairs carry: each has a place in its pair.
-- Assumes nothing.
use mathlib.Core.Path.{◌≡◌, refl, sym, ◌∙◌, subst}
use mathlib.Core.Bool.{Bool, true}
use Prim.Native.Nat.{ℕ, zero, suc, ◌+◌, ◌-◌, ◌*◌, ◌<◌, ◌≤◌}
use native.Mathlib.Omega.{arith}
use lib.Dec.{T, ltb}
use lib.IntN.{pos}
use borrow.Author.Tests.{lt-ltb}
use Rattle.laws.specs.Answer.{accepted}
use Rattle.laws.specs.Choice.{choose}
use Rattle.laws.specs.Search.{Found, at, none, first_below}
use Rattle.laws.proofs.Range.{values, agree2}
use Rattle.laws.proofs.Search.{all-fail}
use Rattle.insn.specs.declared.Operand.TheVariants.{Imm}
use Rattle.insn.proofs.Sizes.{at-most-64}
use Rattle.tables.specs.declared.ShiftClass.TheVariants.{Right, Left}
use Rattle.fields.specs.Halfwords.{bit, field}
use Rattle.amounts.specs.Shifts.{is_escape, right_end, left_start, size_code}
use Rattle.read_immediates.specs.Shift.{forbidden, column_of}
use Rattle.writings.specs.Numbers.{or_nine}
use Rattle.amount_values.specs.Amounts as shift
use Rattle.amount_values.specs.Amounts.{amount_in}
use Rattle.insn.specs.Widths.{bits_at}

-- a search that one number passes finds a number
finds : (p : ℕ → Bool) (n t : ℕ) → t < n → p t ≡ true → (u : ℕ) × (or_nine (first_below n p) ≡ accepted u)
finds p n t h e = go (first_below n p) refl
  where
    go : (f : Found) → first_below n p ≡ f → (u : ℕ) × (or_nine f ≡ accepted u)
    go (at u) k = (u, refl)
    go none k = absurd (subst T (sym e ∙ all-fail p n k t h) tt)

-- a left amount below w stands at w + amount
abbrev left_at : ℕ → ℕ → Bool
left_at c k = choose (ltb k (bits_at c)) (shift.amount_reads Left c (pos k) (bit 6 (bits_at c + k)) (field 5 0 (bits_at c + k))) true

left-read : (c k : ℕ) → c < 4 → k < 64 → left_at c k ≡ true
unfolding values shift.amount_reads forbidden column_of is_escape size_code right_end left_start
left-read = agree2 left_at (λ (c k : ℕ). true) 4 64 refl

pub left-carried : (c k : ℕ) → c < 4 → k < bits_at c → (t : ℕ) × (amount_in Left c (Imm (pos k)) ≡ accepted t)
unfolding amount_in
left-carried c k hc hk =
    let small = at-most-64 {s = c} (omega arith) in
    finds (λ (t : ℕ). shift.amount_reads Left c (pos k) (bit 6 t) (field 5 0 t)) 128 (bits_at c + k) (omega arith)
    (rw (lt-ltb k (bits_at c) hk) at (left-read c k hc (omega arith)))

-- a right amount from 1 to w stands at 2w - amount
abbrev right_at : ℕ → ℕ → Bool
right_at c k = choose (ltb k (bits_at c)) (shift.amount_reads Right c (pos (suc k)) (bit 6 (2 * bits_at c - suc k)) (field 5 0 (2 * bits_at c - suc k))) true

right-read : (c k : ℕ) → c < 4 → k < 64 → right_at c k ≡ true
unfolding values shift.amount_reads forbidden column_of is_escape size_code right_end left_start
right-read = agree2 right_at (λ (c k : ℕ). true) 4 64 refl

pub right-carried : (c k : ℕ) → c < 4 → 0 < k → k ≤ bits_at c → (t : ℕ) × (amount_in Right c (Imm (pos k)) ≡ accepted t)
unfolding amount_in
right-carried c zero hc p hk = absurd (let b : ⊥ = omega arith in b)
right-carried c (suc k) hc p hk =
    let small = at-most-64 {s = c} (omega arith) in
    finds (λ (t : ℕ). shift.amount_reads Right c (pos (suc k)) (bit 6 t) (field 5 0 t)) 128 (2 * bits_at c - suc k) (omega arith)
    (rw (lt-ltb k (bits_at c) hk) at (right-read c k hc (omega arith)))
