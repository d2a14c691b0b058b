-- A value's own test: what is of the kind that the name takes is refused with 9 alone, and anything else with 8.
-- Assumes nothing.
use mathlib.Core.Path.{◌≡◌, refl, sym, ap, ◌∙◌, subst}
use mathlib.Core.Bool.{Bool, true, false}
use mathlib.Core.Logic.{◌≢◌}
use Prim.Native.Nat.{ℕ, ◌^◌}
use lib.Dec.{eqb, ltb}
use lib.Ieee as Ieee
use lib.Ieee.{binary64, fits}
use lib.IntN.{ℤ}
use lib.Signed.{mag}
use borrow.Author.Tests.{ltb-true}
use Rattle.laws.specs.Answer.{Answer, accepted, refused}
use Rattle.laws.specs.Choice.{choose}
use Rattle.laws.proofs.Never.{never, wrong}
use Rattle.insn.specs.declared.Operand.{Operand}
use Rattle.insn.specs.declared.Operand.TheVariants.{D, Q, S, Imm, Float, Other, Absent}
use Rattle.insn.specs.Record.{value_or}
use Rattle.writings.proofs.Only.{RefusedOnly}
use Rattle.trips.specs.Writable.{AnotherValue, another-number, another-float}
use Rattle.trips.proofs.Alike.{Alike, same_operand, two-numbers, two_floats}

-- whether an answer is the refusal n
abbrev pub is_refusal : {A : Type 0} → ℕ → Answer A → Bool
is_refusal n (accepted a) = false
is_refusal n (refused m) = eqb m n

-- an operand as the value of a name that takes floats, or numbers; f and g are their tests
abbrev pub value_by : Bool → (ℤ → Answer ℕ) → (Ieee.Float → Answer ℕ) → Operand → Answer ℕ
value_by floats f g o = value_or (λ v. choose floats (refused 8) (f v)) (λ x. choose floats (g x) (refused 8)) (refused 8) o

-- an i64 or an f64
abbrev pub has64_bits : Operand → Bool
has64_bits o = value_or (λ w. ltb (mag w) (2 ^ 63)) (λ y. fits binary64 y) false o

-- a value of the kind that the name takes, and its answer
data Valued (floats : Bool) (f : ℤ → Answer ℕ) (g : Ieee.Float → Answer ℕ) (o : Operand) (answer : Answer ℕ) : Type 0 where
  is_number : floats ≡ false → (v : ℤ) → o ≡ Imm v → f v ≡ answer → Valued floats f g o answer
  is-float : floats ≡ true → (x : Ieee.Float) → o ≡ Float x → g x ≡ answer → Valued floats f g o answer

not_eight : {A : Type 0} (answer : Answer ℕ) → is_refusal 8 answer ≡ false → refused 8 ≡ answer → A
not_eight answer n e = wrong (sym n ∙ sym (ap (is_refusal 8) e))

differs : {A : Type 0} (h : A → Answer ℕ) (x y : A) (t : ℕ) → h x ≡ refused 9 → h y ≡ accepted t → y ≢ x
differs h x y t r e q = let same : h y ≡ h x = ap h q in never (cc)

module _ (f : ℤ → Answer ℕ) (g : Ieee.Float → Answer ℕ) where
  -- what is not refused with 8 is of that kind
  valued : (floats : Bool) (o : Operand) (answer : Answer ℕ) → is_refusal 8 answer ≡ false → value_by floats f g o ≡ answer → Valued floats f g o answer
  valued false (Imm v) answer n e = is_number refl v refl e
  valued true (Imm v) answer n e = not_eight answer n e
  valued true (Float x) answer n e = is-float refl x refl e
  valued false (Float x) answer n e = not_eight answer n e
  valued floats (D k) answer n e = not_eight answer n e
  valued floats (Q k) answer n e = not_eight answer n e
  valued floats (S k) answer n e = not_eight answer n e
  valued floats Other answer n e = not_eight answer n e
  valued floats Absent answer n e = not_eight answer n e

  -- of two values of one kind, one taken and one refused: refused with 9
  pub refused-nine : (floats : Bool) (o p : Operand) (n t : ℕ) → ((v : ℤ) → RefusedOnly 9 (f v)) → ((x : Ieee.Float) → RefusedOnly 9 (g x)) → Alike o p
      → value_by floats f g p ≡ accepted t → value_by floats f g o ≡ refused n → n ≡ 9
  refused-nine floats o p n t hf hg (same_operand q) e r = never (cc)
  refused-nine false o p n t hf hg (two-numbers v w) e r = subst (RefusedOnly 9) r (hf v)
  refused-nine true o p n t hf hg (two-numbers v w) e r = never (cc)
  refused-nine true o p n t hf hg (two_floats x y) e r = subst (RefusedOnly 9) r (hg x)
  refused-nine false o p n t hf hg (two_floats x y) e r = never (cc)

  -- one refused with 9 and one taken: the second is another of the first's kind
  pub another : (floats : Bool) (o p : Operand) (t : ℕ) → has64_bits p ≡ true → value_by floats f g o ≡ refused 9 → value_by floats f g p ≡ accepted t → AnotherValue o p
  another floats o p t h r e = go (valued floats o (refused 9) refl r) (valued floats p (accepted t) refl e)
    where
      go : Valued floats f g o (refused 9) → Valued floats f g p (accepted t) → AnotherValue o p
      go (is_number a v ev rv) (is_number b w ew tw) =
          rw (ev, ew) (another-number v w (differs f v w t rv tw) (ltb-true (mag w) (2 ^ 63) (sym (ap has64_bits ew) ∙ h)))
      go (is-float a x ex rx) (is-float b y ey ty) = rw (ex, ey) (another-float x y (differs g x y t rx ty) (sym (ap has64_bits ey) ∙ h))
      go (is_number a v ev rv) (is-float b y ey ty) = wrong (sym a ∙ b)
      go (is-float a x ex rx) (is_number b w ew tw) = wrong (sym b ∙ a)
