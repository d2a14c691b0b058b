-- What the names mean that a sheet is translated to, computed once.
-- Assumes nothing.
use mathlib.Core.Path.{◌≡◌, refl, ap}
use mathlib.Core.Bool.{Bool, true, false}
use mathlib.Core.List.{List, [], ◌∷◌}
use Prim.Native.Nat.{ℕ, ◌<◌}
use Prim.Native.String.{String, ◌++◌}
use lib.Dec.{eqb}
use lib.ListN.{get_or}
use lib.Text.{eqt}
use Rattle.laws.specs.Choice.{choose}
use Rattle.laws.proofs.Range.{values, agree}
use Rattle.trips.specs.Spelling.{moved_name}
use Rattle.lanes.specs.declared.LaneOp.TheVariants.{Add, Sub, Mul, Max, Min, Cgt}
use Rattle.insn.specs.declared.Sign.{Sign}
use Rattle.insn.specs.declared.Sign.TheVariants.{Unsigned, Signed}
use Rattle.insn.specs.declared.Width.{Width}
use Rattle.operations.specs.declared.BitOp.TheVariants as bit
use Rattle.forms.specs.declared.Direction.TheVariants as way
use Rattle.forms.specs.declared.Form.{Form}
use Rattle.forms.specs.declared.Form.TheVariants as form
use Rattle.forms.specs.Forms.{groups, named_forms, form_of}
use Rattle.insn.specs.Widths.{width_at}
use Rattle.steps.specs.Meaning.{sign_of}
use Rattle.recipes.specs.Naming.{signed, sized}
use Rattle.sheet.proofs.Executes.{Means}

-- a name's form, and whether it is read back under itself
record Facts : Type 0 where
  form : Form
  plain : Bool

abbrev found : String → Facts
found name = record { form = form_of name; plain = eqt (moved_name name) "" }

abbrev claimed : Form → Facts
claimed f = record { form = f; plain = true }

abbrev seen : String → ℕ → List Facts
seen stem n = values (λ (c : ℕ). found (sized stem c)) 0 n

abbrev said : (Width → Form) → ℕ → List Facts
said f n = values (λ (c : ℕ). claimed (f (width_at c))) 0 n

abbrev seen_one : String → List Facts
seen_one name = found name ∷ []

abbrev said-one : Form → List Facts
said-one f = claimed f ∷ []

computed :
    ◌≡◌ {A = List (List Facts)}
    (seen "vadd.i" 4  -- 0
    ∷ seen "vsub.i" 4  -- 1
    ∷ seen "vmul.i" 3  -- 2
    ∷ seen "vmax.s" 3  -- 3
    ∷ seen "vmax.u" 3  -- 4
    ∷ seen "vmin.s" 3  -- 5
    ∷ seen "vmin.u" 3  -- 6
    ∷ seen "vcgt.s" 3  -- 7
    ∷ seen "vcgt.u" 3  -- 8
    ∷ seen "vshl.i" 4  -- 9
    ∷ seen "vshr.s" 4  -- 10
    ∷ seen "vshr.u" 4  -- 11
    ∷ seen_one "vand"  -- 12
    ∷ seen_one "vorr"  -- 13
    ∷ seen_one "veor"  -- 14
    ∷ seen_one "vorn"  -- 15
    ∷ seen_one "vbsl"  -- 16
    ∷ seen_one "vbif"  -- 17
    ∷ seen_one "vmov"  -- 18
    ∷ [])
    (said (form.Lanes Add) 4
    ∷ said (form.Lanes Sub) 4
    ∷ said (form.Lanes Mul) 3
    ∷ said (form.Lanes (Max Signed)) 3
    ∷ said (form.Lanes (Max Unsigned)) 3
    ∷ said (form.Lanes (Min Signed)) 3
    ∷ said (form.Lanes (Min Unsigned)) 3
    ∷ said (form.Lanes (Cgt Signed)) 3
    ∷ said (form.Lanes (Cgt Unsigned)) 3
    ∷ said (form.Shift way.Left) 4
    ∷ said (form.Shift (way.Right Signed)) 4
    ∷ said (form.Shift (way.Right Unsigned)) 4
    ∷ said-one (form.Bits bit.And)
    ∷ said-one (form.Bits bit.Orr)
    ∷ said-one (form.Bits bit.Eor)
    ∷ said-one (form.Bits bit.Orn)
    ∷ said-one (form.Bits bit.Bsl)
    ∷ said-one (form.Bits bit.Bif)
    ∷ said-one form.Copy
    ∷ [])
unfolding values groups named_forms form_of
computed = refl

-- row k of it
abbrev line : ℕ → List (List Facts) → List Facts
line k l = get_or l k []

means : (name : String) (f : Form) → found name ≡ claimed f → Means name f
means name f e = record { plain = ap (λ (x : Facts). x.plain) e; formed = ap (λ (x : Facts). x.form) e }

by_width : (f : Width → Form) (stem : String) (n : ℕ) → seen stem n ≡ said f n → (c : ℕ) → c < n → Means (sized stem c) (f (width_at c))
by_width f stem n e c h = means (sized stem c) (f (width_at c)) (agree (λ (c : ℕ). found (sized stem c)) (λ (c : ℕ). claimed (f (width_at c))) n e c h)

alone : (name : String) (f : Form) → seen_one name ≡ said-one f → Means name f
alone name f e = means name f (ap (λ (l : List Facts). get_or l 0 (claimed form.Copy)) e)

pub add-means : (c : ℕ) → c < 4 → Means (sized "vadd.i" c) (form.Lanes Add (width_at c))
add-means = by_width (form.Lanes Add) "vadd.i" 4 (ap (line 0) computed)

pub sub-means : (c : ℕ) → c < 4 → Means (sized "vsub.i" c) (form.Lanes Sub (width_at c))
sub-means = by_width (form.Lanes Sub) "vsub.i" 4 (ap (line 1) computed)

pub mul-means : (c : ℕ) → c < 3 → Means (sized "vmul.i" c) (form.Lanes Mul (width_at c))
mul-means = by_width (form.Lanes Mul) "vmul.i" 3 (ap (line 2) computed)

pub left-means : (c : ℕ) → c < 4 → Means (sized "vshl.i" c) (form.Shift way.Left (width_at c))
left-means = by_width (form.Shift way.Left) "vshl.i" 4 (ap (line 9) computed)

-- a name of either sign
by_sign : (f : Sign → Width → Form) (stem : String) (n : ℕ) → seen (stem ++ "s") n ≡ said (f Signed) n → seen (stem ++ "u") n ≡ said (f Unsigned) n
    → (sign c : ℕ) → c < n → Means (sized (signed stem sign) c) (f (sign_of sign) (width_at c))
by_sign f stem n s u sign c h = go (eqb sign 1)
  where
    go : (t : Bool) → Means (sized (stem ++ choose t "s" "u") c) (f (choose t Signed Unsigned) (width_at c))
    go true = by_width (f Signed) (stem ++ "s") n s c h
    go false = by_width (f Unsigned) (stem ++ "u") n u c h

pub max-means : (sign c : ℕ) → c < 3 → Means (sized (signed "vmax." sign) c) (form.Lanes (Max (sign_of sign)) (width_at c))
max-means = by_sign (λ s. form.Lanes (Max s)) "vmax." 3 (ap (line 3) computed) (ap (line 4) computed)

pub min-means : (sign c : ℕ) → c < 3 → Means (sized (signed "vmin." sign) c) (form.Lanes (Min (sign_of sign)) (width_at c))
min-means = by_sign (λ s. form.Lanes (Min s)) "vmin." 3 (ap (line 5) computed) (ap (line 6) computed)

pub greater-means : (sign c : ℕ) → c < 3 → Means (sized (signed "vcgt." sign) c) (form.Lanes (Cgt (sign_of sign)) (width_at c))
greater-means = by_sign (λ s. form.Lanes (Cgt s)) "vcgt." 3 (ap (line 7) computed) (ap (line 8) computed)

pub right-means : (sign c : ℕ) → c < 4 → Means (sized (signed "vshr." sign) c) (form.Shift (way.Right (sign_of sign)) (width_at c))
right-means = by_sign (λ s. form.Shift (way.Right s)) "vshr." 4 (ap (line 10) computed) (ap (line 11) computed)

pub and-means : Means "vand" (form.Bits bit.And)
and-means = alone "vand" (form.Bits bit.And) (ap (line 12) computed)

pub orr-means : Means "vorr" (form.Bits bit.Orr)
orr-means = alone "vorr" (form.Bits bit.Orr) (ap (line 13) computed)

pub eor-means : Means "veor" (form.Bits bit.Eor)
eor-means = alone "veor" (form.Bits bit.Eor) (ap (line 14) computed)

pub orn-means : Means "vorn" (form.Bits bit.Orn)
orn-means = alone "vorn" (form.Bits bit.Orn) (ap (line 15) computed)

pub bsl-means : Means "vbsl" (form.Bits bit.Bsl)
bsl-means = alone "vbsl" (form.Bits bit.Bsl) (ap (line 16) computed)

pub bif-means : Means "vbif" (form.Bits bit.Bif)
bif-means = alone "vbif" (form.Bits bit.Bif) (ap (line 17) computed)

pub copy-means : Means "vmov" form.Copy
copy-means = alone "vmov" form.Copy (ap (line 18) computed)
