-- The place L:imm6 of an amount, by a formula: antt computes that every place that is read has the formula's for its column and amount.
-- Assumes nothing.
use mathlib.Core.Path.{◌≡◌, refl, sym, ap, ◌∙◌}
use mathlib.Core.Bool.{Bool, true, false, not}
use mathlib.Core.Logic.{◌≢◌}
use Prim.Native.Nat.{ℕ, ◌+◌, ◌-◌, ◌*◌, ◌%◌, ◌^◌, ◌<◌, ◌≤◌}
use native.Mathlib.Omega.{arith}
use lib.Dec.{eqb, ltb, leb}
use lib.IntN.{ℤ, pos}
use borrow.Author.Tests.{eqb-true, leb-true, le-ltb}
use Rattle.laws.specs.Answer.{Answer, accepted, refused}
use Rattle.laws.specs.Choice.{choose, both}
use Rattle.laws.proofs.Range.{values, agree, agree2}
use Rattle.insn.specs.declared.Operand.TheVariants.{Imm}
use Rattle.insn.specs.declared.Width.{Width}
use Rattle.insn.specs.declared.Width.TheVariants.{B8, B16, B32, B64}
use Rattle.insn.specs.Widths.{bits_at, size_of, bits_of}
use Rattle.insn.proofs.Sizes.{size-le}
use Rattle.laws.specs.Search.{at, none}
use Rattle.laws.proofs.Search.{candidate, nothing}
use Rattle.laws.proofs.Never.{wrong}
use Rattle.tables.specs.declared.ShiftClass.{ShiftClass}
use Rattle.tables.specs.declared.ShiftClass.TheVariants.{Right, Left, Narrow, Long, Convert}
use Rattle.fields.specs.Halfwords.{bit, field}
use Rattle.amounts.specs.Shifts.{is_escape, right_end, left_start, amount_of, size_code}
use Rattle.read_immediates.specs.Shift.{forbidden, column_of}
use Rattle.writings.specs.Numbers.{or_nine}
use Rattle.amount_values.specs.Amounts.{amount_reads, amount_in}
use Rattle.amount_values.specs.Range.{is_outside}
use Rattle.writings.proofs.Tests.{same_number_lem}
use Rattle.laws.proofs.Tests.{both_true, not-holds}

-- the amounts of a column: 1 to `span`, counted down from twice it, or 0 to `span` - 1, counted up from it
abbrev span : ShiftClass → ℕ → ℕ
span Right column = 8 * 2 ^ column
span Left column = 8 * 2 ^ column
span Narrow column = choose (eqb column 3) 0 (8 * 2 ^ column)
span Long column = choose (eqb column 3) 0 (8 * 2 ^ column)
span Convert column = choose (eqb column 0) 32 0

abbrev up : ShiftClass → Bool
up Right = false
up Left = true
up Narrow = false
up Long = true
up Convert = false

abbrev guess : ShiftClass → ℕ → ℕ → ℕ
guess class column k = choose (up class) (span class column + k) (2 * span class column - k) % 128

-- the code's tests: the amounts 1 to n count down from 2n, and those below n up from it
abbrev counted-down : ℕ → ℕ → Answer ℕ
counted-down n k = choose (eqb k 0) (refused 9) (choose (ltb n k) (refused 9) (accepted (2 * n - k)))

abbrev counted-up : ℕ → ℕ → Answer ℕ
counted-up n k = choose (ltb k n) (accepted (n + k)) (refused 9)

abbrev pub tests : ShiftClass → ℕ → ℕ → Answer ℕ
tests Right column k = counted-down (bits_at column) k
tests Left column k = counted-up (bits_at column) k
tests Narrow column k = choose (eqb column 3) (refused 9) (counted-down (bits_at column) k)
tests Long column k = choose (eqb column 3) (refused 9) (counted-up (bits_at column) k)
tests Convert column k = choose (eqb column 0) (counted-down 32 k) (refused 9)

abbrev l : ℕ → ℕ
l t = bit 6 t

abbrev i : ℕ → ℕ
i t = field 5 0 t

-- L:imm6 is read at all
abbrev ok : ShiftClass → ℕ → Bool
ok class t = both (not (forbidden class (l t) (i t))) (not (is_escape (l t) (i t)))

abbrev again : ShiftClass → ℕ → ℕ
again class t = choose (ok class t) (guess class (column_of class (l t) (i t)) (amount_of class (l t) (i t))) t

back : (class : ShiftClass) (t : ℕ) → t < 128 → again class t ≡ t
unfolding values forbidden is_escape column_of size_code right_end left_start
back Right = agree (again Right) (λ (t : ℕ). t) 128 refl
back Left = agree (again Left) (λ (t : ℕ). t) 128 refl
back Narrow = agree (again Narrow) (λ (t : ℕ). t) 128 refl
back Long = agree (again Long) (λ (t : ℕ). t) 128 refl
back Convert = agree (again Convert) (λ (t : ℕ). t) 128 refl

-- the formula's place, if it is read so
abbrev checked : ShiftClass → ℕ → ℕ → Answer ℕ
checked class column k = let g = guess class column k in or_nine (choose (amount_reads class column (pos k) (l g) (i g)) (at g) none)

tested : (class : ShiftClass) (column k : ℕ) → column < 4 → k < 65 → checked class column k ≡ tests class column k
unfolding values amount_reads forbidden is_escape column_of size_code right_end left_start
tested Right = agree2 (checked Right) (tests Right) 4 65 refl
tested Left = agree2 (checked Left) (tests Left) 4 65 refl
tested Narrow = agree2 (checked Narrow) (tests Narrow) 4 65 refl
tested Long = agree2 (checked Long) (tests Long) 4 65 refl
tested Convert = agree2 (checked Convert) (tests Convert) 4 65 refl

-- no amount is above 64
small : (class : ShiftClass) (t : ℕ) → t < 128 → leb (amount_of class (l t) (i t)) 64 ≡ true
unfolding values size_code right_end left_start
small Right = agree (λ (t : ℕ). leb (amount_of Right (l t) (i t)) 64) (λ (t : ℕ). true) 128 refl
small Left = agree (λ (t : ℕ). leb (amount_of Left (l t) (i t)) 64) (λ (t : ℕ). true) 128 refl
small Narrow = agree (λ (t : ℕ). leb (amount_of Narrow (l t) (i t)) 64) (λ (t : ℕ). true) 128 refl
small Long = agree (λ (t : ℕ). leb (amount_of Long (l t) (i t)) 64) (λ (t : ℕ). true) 128 refl
small Convert = agree (λ (t : ℕ). leb (amount_of Convert (l t) (i t)) 64) (λ (t : ℕ). true) 128 refl

pub record Reads (class : ShiftClass) (column : ℕ) (v : ℤ) (t : ℕ) : Type 0 where
  pub allowed : forbidden class (l t) (i t) ≡ false
  pub sized : is_escape (l t) (i t) ≡ false
  pub its-column : column_of class (l t) (i t) ≡ column
  pub its-amount : pos (amount_of class (l t) (i t)) ≡ v

module _ (class : ShiftClass) (column : ℕ) where
  pub says : (v : ℤ) (t : ℕ) → amount_reads class column v (l t) (i t) ≡ true → Reads class column v t
  unfolding amount_reads
  says v t e =
      let a = both_true (not (forbidden class (l t) (i t))) _ e in
      let b = both_true (not (is_escape (l t) (i t))) _ a.1 in
      let d = both_true (eqb (column_of class (l t) (i t)) column) _ b.1 in
      record {
        allowed = not-holds _ a.0;
        sized = not-holds _ b.0;
        its-column = eqb-true _ _ d.0;
        its-amount = same_number_lem _ v d.1;
      }

  -- a place that is read so is the formula's
  pub only-place : (k t : ℕ) → t < 128 → amount_reads class column (pos k) (l t) (i t) ≡ true → t ≡ guess class column k
  only-place k t h e =
      let r = says (pos k) t e in
      let same : amount_of class (l t) (i t) ≡ k = cc r.its-amount in
      sym (rw (r.allowed, r.sized, r.its-column, same) at (back class t h))

  pub amount-place : (k : ℕ) → column < 4 → k ≤ 64 → tests class column k ≡ amount_in class column (Imm (pos k))
  unfolding amount_in
  amount-place k hc hk =
      sym
      (ap or_nine (candidate (λ (t : ℕ). amount_reads class column (pos k) (l t) (i t)) 128 (guess class column k) (omega arith) (only-place k))
      ∙ tested class column k hc (omega arith))

  -- a number outside 0 to 64 has no place
  pub outside_nine : (v : ℤ) → is_outside v ≡ true → amount_in class column (Imm v) ≡ refused 9
  unfolding amount_in
  outside_nine v out = ap or_nine (nothing (λ (t : ℕ). amount_reads class column v (l t) (i t)) 128 (λ t h. go t h (amount_reads class column v (l t) (i t)) refl))
    where
      go : (t : ℕ) → t < 128 → (b : Bool) → amount_reads class column v (l t) (i t) ≡ b → b ≡ false
      go t h true e = wrong (sym (le-ltb 64 (amount_of class (l t) (i t)) (leb-true (amount_of class (l t) (i t)) 64 (small class t h))) ∙ ap is_outside (says v t e).its-amount ∙ out)
      go t h false e = refl

-- so for the elements of a width
pub width-place : (class : ShiftClass) (w : Width) (k : ℕ) → k ≤ 64 → tests class (size_of w) k ≡ amount_in class (size_of w) (Imm (pos k))
width-place class w k h = amount-place class (size_of w) k (omega (arith, size-le w)) h

pub narrow-place : (w : Width) (k : ℕ) → k ≤ 64 → w ≢ B64 → counted-down (bits_of w) k ≡ amount_in Narrow (size_of w) (Imm (pos k))
narrow-place B8 k h n = width-place Narrow B8 k h
narrow-place B16 k h n = width-place Narrow B16 k h
narrow-place B32 k h n = width-place Narrow B32 k h
narrow-place B64 k h n = absurd (n refl)

pub long-place : (w : Width) (k : ℕ) → k ≤ 64 → w ≢ B64 → counted-up (bits_of w) k ≡ amount_in Long (size_of w) (Imm (pos k))
long-place B8 k h n = width-place Long B8 k h
long-place B16 k h n = width-place Long B16 k h
long-place B32 k h n = width-place Long B32 k h
long-place B64 k h n = absurd (n refl)

pub convert-none : (w : Width) (k : ℕ) → k ≤ 64 → w ≢ B8 → refused 9 ≡ amount_in Convert (size_of w) (Imm (pos k))
convert-none B8 k h n = absurd (n refl)
convert-none B16 k h n = width-place Convert B16 k h
convert-none B32 k h n = width-place Convert B32 k h
convert-none B64 k h n = width-place Convert B64 k h
