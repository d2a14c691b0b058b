-- The names that a sheet is translated to: their numbers and their homes, computed once.
-- Assumes nothing.
use mathlib.Core.Path.{◌≡◌, refl, ap, ◌∙◌}
use mathlib.Core.Bool.{Bool, true, false}
use mathlib.Core.List.{List, [], ◌∷◌}
use Prim.Native.Nat.{ℕ, ◌+◌, ◌/◌, ◌<◌}
use Prim.Native.String.{String, ◌++◌}
use lib.Dec.{eqb}
use lib.ListN.{get_or}
use Rattle.laws.specs.Choice.{choose}
use Rattle.laws.proofs.Range.{values, agree}
use Rattle.homes.specs.declared.Home.{Home}
use Rattle.homes.specs.declared.Home.TheVariants.{Same3, Shift, Vmov}
use Rattle.tables.specs.declared.ShiftClass.{ShiftClass}
use Rattle.tables.specs.declared.ShiftClass.TheVariants.{Right, Left}
use Rattle.homes.specs.Home.{home_of}
use Rattle.homes.proofs.Homes.{homes, listed_home, home-named}
use Rattle.names.specs.Names.{names, name_of, number_of, pairwise}
use Rattle.immediate_tables.specs.Shift.{shift_classes, shift_rows}
use Rattle.fields.specs.Halfwords.{field}
use Rattle.recipes.specs.Naming.{signed, sized}

-- what is asked of a name: its number, the name of that number, that number's home in the list of homes, whether it is pairwise
record Facts : Type 0 where
  number : ℕ
  back : String
  home : Home
  paired : Bool

abbrev found : Bool → String → Facts
found amount name = record { number = number_of name; back = name_of (number_of name); home = listed_home amount (number_of name); paired = pairwise name }

abbrev claimed : String → ℕ → Home → Facts
claimed name number home = record { number = number; back = name; home = home; paired = false }

-- a name has that number and is written there, with or without an amount
pub record Known (amount : Bool) (name : String) (number : ℕ) (home : Home) : Type 0 where
  pub numbered : number_of name ≡ number
  pub back : name_of (number_of name) ≡ name
  pub placed : home_of name amount ≡ home
  pub single : pairwise name ≡ false

known : (amount : Bool) (name : String) (number : ℕ) (home : Home) → found amount name ≡ claimed name number home → Known amount name number home
known amount name number home e = record {
  numbered = ap (λ (f : Facts). f.number) e;
  back = ap (λ (f : Facts). f.back) e;
  placed = home-named (number_of name) name (ap (λ (f : Facts). f.back) e) amount ∙ ap (λ (f : Facts). f.home) e;
  single = ap (λ (f : Facts). f.paired) e;
}

-- n names by width code, whose numbers and cells follow one another
abbrev seen : Bool → String → ℕ → List Facts
seen amount stem n = values (λ (c : ℕ). found amount (sized stem c)) 0 n

abbrev said : (ℕ → Home) → String → ℕ → ℕ → ℕ → List Facts
said home stem n number cell = values (λ (c : ℕ). claimed (sized stem c) (number + c) (home (cell + c))) 0 n

-- one name
abbrev seen_one : String → List Facts
seen_one name = found false name ∷ []

abbrev said-one : String → ℕ → Home → List Facts
said-one name number home = claimed name number home ∷ []

computed :
    ◌≡◌ {A = List (List Facts)}
    (seen false "vadd.i" 4  -- 0
    ∷ seen false "vsub.i" 4  -- 1
    ∷ seen false "vmul.i" 3  -- 2
    ∷ seen false "vmax.s" 3  -- 3
    ∷ seen false "vmax.u" 3  -- 4
    ∷ seen false "vmin.s" 3  -- 5
    ∷ seen false "vmin.u" 3  -- 6
    ∷ seen false "vcgt.s" 3  -- 7
    ∷ seen false "vcgt.u" 3  -- 8
    ∷ seen true "vshl.i" 4  -- 9
    ∷ seen true "vshr.s" 4  -- 10
    ∷ seen true "vshr.u" 4  -- 11
    ∷ seen_one "vand"  -- 12
    ∷ seen_one "vorr"  -- 13
    ∷ seen_one "veor"  -- 14
    ∷ seen_one "vorn"  -- 15
    ∷ seen_one "vbsl"  -- 16
    ∷ seen_one "vbif"  -- 17
    ∷ seen_one "vmov"  -- 18
    ∷ [])
    (said Same3 "vadd.i" 4 55 64
    ∷ said Same3 "vsub.i" 4 145 192
    ∷ said Same3 "vmul.i" 3 65 76
    ∷ said Same3 "vmax.s" 3 43 48
    ∷ said Same3 "vmax.u" 3 133 176
    ∷ said Same3 "vmin.s" 3 46 52
    ∷ said Same3 "vmin.u" 3 136 180
    ∷ said Same3 "vcgt.s" 3 21 24
    ∷ said Same3 "vcgt.u" 3 111 152
    ∷ said Shift "vshl.i" 4 189 40
    ∷ said Shift "vshr.s" 4 173 0
    ∷ said Shift "vshr.u" 4 210 128
    ∷ said-one "vand" 10 (Same3 12)
    ∷ said-one "vorr" 12 (Same3 14)
    ∷ said-one "veor" 100 (Same3 140)
    ∷ said-one "vorn" 13 (Same3 15)
    ∷ said-one "vbsl" 101 (Same3 141)
    ∷ said-one "vbif" 103 (Same3 143)
    ∷ said-one "vmov" 345 Vmov
    ∷ [])
unfolding values names name_of number_of homes pairwise
computed = refl

-- row k of it
abbrev row : ℕ → List (List Facts) → List Facts
row k l = get_or l k []

by_width : (amount : Bool) (home : ℕ → Home) (stem : String) (n number cell : ℕ) → seen amount stem n ≡ said home stem n number cell
    → (c : ℕ) → c < n → Known amount (sized stem c) (number + c) (home (cell + c))
by_width amount home stem n number cell e c h =
    known amount (sized stem c) (number + c) (home (cell + c))
    (agree (λ (c : ℕ). found amount (sized stem c)) (λ (c : ℕ). claimed (sized stem c) (number + c) (home (cell + c))) n e c h)

alone : (name : String) (number : ℕ) (home : Home) → seen_one name ≡ said-one name number home → Known false name number home
alone name number home e = known false name number home (ap (λ (l : List Facts). get_or l 0 (claimed "" 0 Vmov)) e)

pub add-known : (c : ℕ) → c < 4 → Known false (sized "vadd.i" c) (55 + c) (Same3 (64 + c))
add-known = by_width false Same3 "vadd.i" 4 55 64 (ap (row 0) computed)

pub sub-known : (c : ℕ) → c < 4 → Known false (sized "vsub.i" c) (145 + c) (Same3 (192 + c))
sub-known = by_width false Same3 "vsub.i" 4 145 192 (ap (row 1) computed)

pub mul-known : (c : ℕ) → c < 3 → Known false (sized "vmul.i" c) (65 + c) (Same3 (76 + c))
mul-known = by_width false Same3 "vmul.i" 3 65 76 (ap (row 2) computed)

pub left-known : (c : ℕ) → c < 4 → Known true (sized "vshl.i" c) (189 + c) (Shift (40 + c))
left-known = by_width true Shift "vshl.i" 4 189 40 (ap (row 9) computed)

-- a name of either sign
abbrev pub BySign : Bool → (ℕ → Home) → String → ℕ → ℕ → ℕ → ℕ → ℕ → Type 0
BySign amount home stem n ns nu cs cu =
    (sign c : ℕ) → c < n → Known amount (sized (signed stem sign) c) (choose (eqb sign 1) ns nu + c) (home (choose (eqb sign 1) cs cu + c))

by_sign : (amount : Bool) (home : ℕ → Home) (stem : String) (n ns nu cs cu : ℕ)
    → seen amount (stem ++ "s") n ≡ said home (stem ++ "s") n ns cs → seen amount (stem ++ "u") n ≡ said home (stem ++ "u") n nu cu
    → BySign amount home stem n ns nu cs cu
by_sign amount home stem n ns nu cs cu s u sign c h = go (eqb sign 1)
  where
    go : (t : Bool) → Known amount (sized (stem ++ choose t "s" "u") c) (choose t ns nu + c) (home (choose t cs cu + c))
    go true = by_width amount home (stem ++ "s") n ns cs s c h
    go false = by_width amount home (stem ++ "u") n nu cu u c h

pub max-known : BySign false Same3 "vmax." 3 43 133 48 176
max-known = by_sign false Same3 "vmax." 3 43 133 48 176 (ap (row 3) computed) (ap (row 4) computed)

pub min-known : BySign false Same3 "vmin." 3 46 136 52 180
min-known = by_sign false Same3 "vmin." 3 46 136 52 180 (ap (row 5) computed) (ap (row 6) computed)

pub greater-known : BySign false Same3 "vcgt." 3 21 111 24 152
greater-known = by_sign false Same3 "vcgt." 3 21 111 24 152 (ap (row 7) computed) (ap (row 8) computed)

pub right-known : BySign true Shift "vshr." 4 173 210 0 128
right-known = by_sign true Shift "vshr." 4 173 210 0 128 (ap (row 10) computed) (ap (row 11) computed)

pub and-known : Known false "vand" 10 (Same3 12)
and-known = alone "vand" 10 (Same3 12) (ap (row 12) computed)

pub orr-known : Known false "vorr" 12 (Same3 14)
orr-known = alone "vorr" 12 (Same3 14) (ap (row 13) computed)

pub eor-known : Known false "veor" 100 (Same3 140)
eor-known = alone "veor" 100 (Same3 140) (ap (row 14) computed)

pub orn-known : Known false "vorn" 13 (Same3 15)
orn-known = alone "vorn" 13 (Same3 15) (ap (row 15) computed)

pub bsl-known : Known false "vbsl" 101 (Same3 141)
bsl-known = alone "vbsl" 101 (Same3 141) (ap (row 16) computed)

pub bif-known : Known false "vbif" 103 (Same3 143)
bif-known = alone "vbif" 103 (Same3 143) (ap (row 17) computed)

pub copy-known : Known false "vmov" 345 Vmov
copy-known = alone "vmov" 345 Vmov (ap (row 18) computed)

-- the class and the column of a shift's cell
pub record Classed (class : ShiftClass) (column cell : ℕ) : Type 0 where
  pub class_of : get_or shift_classes (cell / 4) Right ≡ class
  pub column-of : field 1 0 cell ≡ column

classed : (class : ShiftClass) (first : ℕ) → values (λ (c : ℕ). get_or shift_classes ((first + c) / 4) Right) 0 4 ≡ values (λ (c : ℕ). class) 0 4
    → values (λ (c : ℕ). field 1 0 (first + c)) 0 4 ≡ values (λ (c : ℕ). c) 0 4 → (c : ℕ) → c < 4 → Classed class c (first + c)
classed class first e f c h = record {
  class_of = agree (λ (c : ℕ). get_or shift_classes ((first + c) / 4) Right) (λ (c : ℕ). class) 4 e c h;
  column-of = agree (λ (c : ℕ). field 1 0 (first + c)) (λ (c : ℕ). c) 4 f c h;
}

pub left-classed : (c : ℕ) → c < 4 → Classed Left c (40 + c)
unfolding values shift_rows shift_classes
left-classed = classed Left 40 refl refl

pub right-classed : (sign c : ℕ) → c < 4 → Classed Right c (choose (eqb sign 1) 0 128 + c)
unfolding values shift_rows shift_classes
right-classed sign c h = go (eqb sign 1)
  where
    go : (t : Bool) → Classed Right c (choose t 0 128 + c)
    go true = classed Right 0 refl refl c h
    go false = classed Right 128 refl refl c h
