-- 9 is for a value alone, and where it is given another value has a place.
-- Assumes nothing.
use mathlib.Core.Path.{◌≡◌, refl}
use mathlib.Core.Bool.{Bool, false}
use Prim.Native.Nat.{ℕ, ◌+◌, ◌*◌}
use Prim.Native.String.{String}
use lib.IntN.{ℤ, pos}
use lib.Text.{eqt}
use Rattle.laws.specs.Answer.{Answer, accepted, refused}
use Rattle.laws.specs.Search.{Found, first_below}
use Rattle.laws.proofs.Never.{never}
use Rattle.insn.specs.declared.Operand.{Operand}
use Rattle.insn.specs.declared.Operand.TheVariants.{Imm, Float}
use Rattle.names.specs.Names.{name_of}
use Rattle.homes.specs.Home.{home_of}
use Rattle.homes.specs.declared.Home.{Home}
use Rattle.homes.specs.declared.Home.TheVariants.{Same3, Shift, Vmovl, Modimm, Diff, Vmov, Nowhere}
use Rattle.homes.proofs.Cells.{filled, class_at, shift-stands, modimm-stands}
use Rattle.fields.specs.Halfwords.{bit, field}
use Rattle.writings.specs.Numbers.{or_nine}
use Rattle.writings.proofs.Only.{RefusedOnly, found-nine}
use Rattle.amount_values.specs.Amounts.{amount_reads, amount_in}
use Rattle.immediate_values.specs.Immediates.{immediate_reads, immediate_of, immediate_in}
use Rattle.trips.specs.Writable.{AnotherValue}
use Rattle.trips.proofs.Alike.{Alike}
use Rattle.trips.proofs.Values.{refused-nine, another}
use Rattle.trips.proofs.Ones.{one-amount, one, one-held, one-immediate}
use Rattle.trips.proofs.ByValue.{value_in}

-- the tests of an amount, and of an immediate; a shift takes no float, so that the test beside its amount's is never asked
abbrev amount_place : ℕ → ℤ → Found
amount_place k v = first_below 128 (λ (t : ℕ). amount_reads (class_at k) (field 1 0 k) v (bit 6 t) (field 5 0 t))

abbrev amount_by : ℕ → ℤ → Answer ℕ
amount_by k v = or_nine (amount_place k v)

amount-alone : (k : ℕ) (v : ℤ) → RefusedOnly 9 (amount_by k v)
amount-alone k v = found-nine (amount_place k v)

immediate-alone : (name : String) (o : Operand) → RefusedOnly 9 (immediate_of name o)
immediate-alone name o = found-nine (first_below 8192 (λ (t : ℕ). immediate_reads name o (bit 12 t) (field 11 8 t) (field 7 0 t)))

-- of values alike, one taken and one refused: refused with 9
pub alike-nine : (h : Home) (name : String) (b c b' c' : Operand) (n t : ℕ) → Alike b b' → Alike c c'
    → value_in h name b' c' ≡ accepted t → value_in h name b c ≡ refused n → n ≡ 9
unfolding amount_in immediate_in
alike-nine (Same3 k) name b c b' c' n t bb cs e r = never (cc)
alike-nine (Shift k) name b c b' c' n t bb cs e r =
    refused-nine (amount_by k) (λ x. refused 9) false c c' n t (amount-alone k) (λ x. refl) cs e r
alike-nine (Vmovl k) name b c b' c' n t bb cs e r = never (cc)
alike-nine (Modimm k) name b c b' c' n t bb cs e r =
    refused-nine (λ v. immediate_of name (Imm v)) (λ x. immediate_of name (Float x)) (eqt name "vmov.f32") b b' n t
    (λ v. immediate-alone name (Imm v)) (λ x. immediate-alone name (Float x)) bb e r
alike-nine (Diff k) name b c b' c' n t bb cs e r = never (cc)
alike-nine Vmov name b c b' c' n t bb cs e r = never (cc)
alike-nine Nowhere name b c b' c' n t bb cs e r = never (cc)

-- another value that is taken: at the second place or at the third
pub data Mended (h : Home) (name : String) (b c : Operand) : Type 0 where
  by-second : (o : Operand) → AnotherValue b o → (t : ℕ) → value_in h name o c ≡ accepted t → Mended h name b c
  by-third : (o : Operand) → AnotherValue c o → (t : ℕ) → value_in h name b o ≡ accepted t → Mended h name b c

pub mended : (m : ℕ) (number : Bool) (h : Home) → home_of (name_of m) number ≡ h → (b c : Operand) → value_in h (name_of m) b c ≡ refused 9 → Mended h (name_of m) b c
unfolding amount_in immediate_in
mended m number (Same3 k) e b c r = never (cc)
mended m number (Shift k) e b c r =
    let st = shift-stands number m k e in
    let t = one-amount k st.within (filled st) in
    by-third (Imm (pos 1)) (another (amount_by k) (λ x. refused 9) false c (Imm (pos 1)) t.0 refl r t.1) t.0 t.1
mended m number (Vmovl k) e b c r = never (cc)
mended m number (Modimm k) e b c r =
    let st = modimm-stands number m k e in
    let t = one-immediate m k st in
    by-second (one k)
    (another (λ v. immediate_of (name_of m) (Imm v)) (λ x. immediate_of (name_of m) (Float x)) (eqt (name_of m) "vmov.f32") b (one k) (k * 256 + 1) (one-held k st.within (filled st)) r t)
    (k * 256 + 1) t
mended m number (Diff k) e b c r = never (cc)
mended m number Vmov e b c r = never (cc)
mended m number Nowhere e b c r = never (cc)
