-- The home of each mnemonic as one list, which antt computes once; everything else of homes is over this list.
-- Assumes nothing.
use mathlib.Core.Path.{◌≡◌, refl, sym, ap, ◌∙◌}
use mathlib.Core.Bool.{Bool, true, false}
use mathlib.Core.List.{List, [], ◌∷◌, map}
use Prim.Native.Nat.{ℕ, zero, suc, ◌+◌, ◌<◌, ◌≤◌}
use Prim.Native.String.{String}
use native.Mathlib.Nat.{add-zero, zero-add, add-suc, suc-add, le_of_suc-le-suc, not-suc-le-zero}
use lib.Dec.{ltb}
use lib.ListN.{length, get_or, get_or-map, get_or-eq_default}
use borrow.Author.Tests.{ltb-true, ltb-false}
use Rattle.laws.specs.Choice.{choose}
use Rattle.laws.specs.Search.{Found, at, none}
use Rattle.names.specs.Names.{names, name_of}
use Rattle.names.proofs.Known.{named}
use Rattle.names.proofs.Spellings.{no_name}
use Rattle.tables.specs.Cells.{cells_of}
use Rattle.register_tables.specs.Same3.{same3}
use Rattle.immediate_tables.specs.Shift.{shift_rows, shift_cells, vmovl}
use Rattle.immediate_tables.specs.Modimm.{modimm}
use Rattle.register_tables.specs.Diff.{diff_rows, diff_cells}
use Rattle.homes.specs.Home.{place_in, other_home, home_by, home_of}
use Rattle.homes.specs.declared.Home.{Home}
use Rattle.homes.specs.declared.Home.TheVariants.{Same3, Shift, Vmovl, Modimm, Diff, Vmov, Nowhere}

-- where the third operand is no number; the number after a line is its first mnemonic
unfoldable pub homes : List Home
homes =
    Same3 0 ∷ Same3 1 ∷ Same3 2 ∷ Same3 4 ∷ Same3 5 ∷ Same3 6 ∷ Same3 7 ∷ Same3 8 ∷  -- 0
    Same3 9 ∷ Same3 10 ∷ Same3 12 ∷ Same3 13 ∷ Same3 14 ∷ Same3 15 ∷ Same3 16 ∷ Same3 17 ∷  -- 8
    Same3 18 ∷ Same3 20 ∷ Same3 21 ∷ Same3 22 ∷ Same3 23 ∷ Same3 24 ∷ Same3 25 ∷ Same3 26 ∷  -- 16
    Same3 28 ∷ Same3 29 ∷ Same3 30 ∷ Same3 32 ∷ Same3 33 ∷ Same3 34 ∷ Same3 35 ∷ Same3 36 ∷  -- 24
    Same3 37 ∷ Same3 38 ∷ Same3 39 ∷ Same3 40 ∷ Same3 41 ∷ Same3 42 ∷ Same3 43 ∷ Same3 44 ∷  -- 32
    Same3 45 ∷ Same3 46 ∷ Same3 47 ∷ Same3 48 ∷ Same3 49 ∷ Same3 50 ∷ Same3 52 ∷ Same3 53 ∷  -- 40
    Same3 54 ∷ Same3 56 ∷ Same3 57 ∷ Same3 58 ∷ Same3 60 ∷ Same3 61 ∷ Same3 62 ∷ Same3 64 ∷  -- 48
    Same3 65 ∷ Same3 66 ∷ Same3 67 ∷ Same3 68 ∷ Same3 69 ∷ Same3 70 ∷ Same3 72 ∷ Same3 73 ∷  -- 56
    Same3 74 ∷ Same3 76 ∷ Same3 77 ∷ Same3 78 ∷ Same3 80 ∷ Same3 81 ∷ Same3 82 ∷ Same3 84 ∷  -- 64
    Same3 85 ∷ Same3 86 ∷ Same3 89 ∷ Same3 90 ∷ Same3 92 ∷ Same3 93 ∷ Same3 94 ∷ Same3 100 ∷  -- 72
    Same3 102 ∷ Same3 104 ∷ Same3 106 ∷ Same3 108 ∷ Same3 110 ∷ Same3 112 ∷ Same3 120 ∷ Same3 122 ∷  -- 80
    Same3 124 ∷ Same3 126 ∷ Same3 128 ∷ Same3 129 ∷ Same3 130 ∷ Same3 132 ∷ Same3 133 ∷ Same3 134 ∷  -- 88
    Same3 135 ∷ Same3 136 ∷ Same3 137 ∷ Same3 138 ∷ Same3 140 ∷ Same3 141 ∷ Same3 142 ∷ Same3 143 ∷  -- 96
    Same3 144 ∷ Same3 145 ∷ Same3 146 ∷ Same3 148 ∷ Same3 149 ∷ Same3 150 ∷ Same3 151 ∷ Same3 152 ∷  -- 104
    Same3 153 ∷ Same3 154 ∷ Same3 156 ∷ Same3 157 ∷ Same3 158 ∷ Same3 160 ∷ Same3 161 ∷ Same3 162 ∷  -- 112
    Same3 163 ∷ Same3 164 ∷ Same3 165 ∷ Same3 166 ∷ Same3 167 ∷ Same3 168 ∷ Same3 169 ∷ Same3 170 ∷  -- 120
    Same3 171 ∷ Same3 172 ∷ Same3 173 ∷ Same3 174 ∷ Same3 175 ∷ Same3 176 ∷ Same3 177 ∷ Same3 178 ∷  -- 128
    Same3 180 ∷ Same3 181 ∷ Same3 182 ∷ Same3 184 ∷ Same3 185 ∷ Same3 186 ∷ Same3 188 ∷ Same3 189 ∷  -- 136
    Same3 190 ∷ Same3 192 ∷ Same3 193 ∷ Same3 194 ∷ Same3 195 ∷ Same3 196 ∷ Same3 197 ∷ Same3 198 ∷  -- 144
    Same3 200 ∷ Same3 201 ∷ Same3 202 ∷ Same3 204 ∷ Same3 208 ∷ Same3 209 ∷ Same3 210 ∷ Same3 212 ∷  -- 152
    Same3 213 ∷ Same3 214 ∷ Same3 217 ∷ Same3 218 ∷ Same3 232 ∷ Same3 234 ∷ Same3 236 ∷ Same3 240 ∷  -- 160
    Same3 242 ∷ Same3 244 ∷ Same3 246 ∷ Same3 248 ∷ Same3 250 ∷ Shift 0 ∷ Shift 1 ∷ Shift 2 ∷  -- 168
    Shift 3 ∷ Shift 8 ∷ Shift 9 ∷ Shift 10 ∷ Shift 11 ∷ Shift 16 ∷ Shift 17 ∷ Shift 18 ∷  -- 176
    Shift 19 ∷ Shift 24 ∷ Shift 25 ∷ Shift 26 ∷ Shift 27 ∷ Shift 40 ∷ Shift 41 ∷ Shift 42 ∷  -- 184
    Shift 43 ∷ Shift 64 ∷ Shift 65 ∷ Shift 66 ∷ Shift 68 ∷ Shift 69 ∷ Shift 70 ∷ Shift 72 ∷  -- 192
    Shift 73 ∷ Shift 74 ∷ Shift 76 ∷ Shift 77 ∷ Shift 78 ∷ Shift 80 ∷ Shift 81 ∷ Shift 82 ∷  -- 200
    Shift 112 ∷ Shift 120 ∷ Shift 128 ∷ Shift 129 ∷ Shift 130 ∷ Shift 131 ∷ Shift 136 ∷ Shift 137 ∷  -- 208
    Shift 138 ∷ Shift 139 ∷ Shift 144 ∷ Shift 145 ∷ Shift 146 ∷ Shift 147 ∷ Shift 152 ∷ Shift 153 ∷  -- 216
    Shift 154 ∷ Shift 155 ∷ Shift 160 ∷ Shift 161 ∷ Shift 162 ∷ Shift 163 ∷ Shift 168 ∷ Shift 169 ∷  -- 224
    Shift 170 ∷ Shift 171 ∷ Shift 176 ∷ Shift 177 ∷ Shift 178 ∷ Shift 179 ∷ Shift 192 ∷ Shift 193 ∷  -- 232
    Shift 194 ∷ Shift 196 ∷ Shift 197 ∷ Shift 198 ∷ Shift 200 ∷ Shift 201 ∷ Shift 202 ∷ Shift 204 ∷  -- 240
    Shift 205 ∷ Shift 206 ∷ Shift 208 ∷ Shift 209 ∷ Shift 210 ∷ Shift 240 ∷ Shift 248 ∷ Vmovl 0 ∷  -- 248
    Vmovl 1 ∷ Vmovl 2 ∷ Vmovl 4 ∷ Vmovl 5 ∷ Vmovl 6 ∷ Modimm 0 ∷ Modimm 1 ∷ Modimm 8 ∷  -- 256
    Modimm 9 ∷ Modimm 14 ∷ Modimm 15 ∷ Modimm 16 ∷ Modimm 17 ∷ Modimm 24 ∷ Modimm 25 ∷ Modimm 30 ∷  -- 264
    Diff 0 ∷ Diff 1 ∷ Diff 2 ∷ Diff 4 ∷ Diff 5 ∷ Diff 6 ∷ Diff 8 ∷ Diff 9 ∷  -- 272
    Diff 10 ∷ Diff 12 ∷ Diff 13 ∷ Diff 14 ∷ Diff 16 ∷ Diff 17 ∷ Diff 18 ∷ Diff 20 ∷  -- 280
    Diff 21 ∷ Diff 22 ∷ Diff 24 ∷ Diff 25 ∷ Diff 26 ∷ Diff 28 ∷ Diff 29 ∷ Diff 30 ∷  -- 288
    Diff 32 ∷ Diff 33 ∷ Diff 34 ∷ Diff 37 ∷ Diff 38 ∷ Diff 40 ∷ Diff 41 ∷ Diff 42 ∷  -- 296
    Diff 45 ∷ Diff 46 ∷ Diff 48 ∷ Diff 49 ∷ Diff 50 ∷ Diff 53 ∷ Diff 54 ∷ Diff 56 ∷  -- 304
    Diff 64 ∷ Diff 65 ∷ Diff 66 ∷ Diff 68 ∷ Diff 69 ∷ Diff 70 ∷ Diff 72 ∷ Diff 73 ∷  -- 312
    Diff 74 ∷ Diff 76 ∷ Diff 77 ∷ Diff 78 ∷ Diff 80 ∷ Diff 81 ∷ Diff 82 ∷ Diff 84 ∷  -- 320
    Diff 85 ∷ Diff 86 ∷ Diff 88 ∷ Diff 89 ∷ Diff 90 ∷ Diff 92 ∷ Diff 93 ∷ Diff 94 ∷  -- 328
    Diff 96 ∷ Diff 97 ∷ Diff 98 ∷ Diff 104 ∷ Diff 105 ∷ Diff 106 ∷ Diff 112 ∷ Diff 113 ∷  -- 336
    Diff 114 ∷ Vmov ∷  -- 344
    []

-- the places of a name in A7-9 and in A7-12, and its home elsewhere
pub data Stand : Type 0 where
  stand : Found → Found → Home → Stand

abbrev stand_of : String → Stand
stand_of s = stand (place_in same3 s) (place_in shift_cells s) (other_home s)

-- where VQSHL stands in A7-12, by its number
abbrev pub vqshl_at : ℕ → Found
vqshl_at m = choose (ltb m 31) none (choose (ltb m 35) (at (m + 25)) (choose (ltb m 121) none (choose (ltb m 125) (at (m + 63)) none)))

-- so it stands, by its number and the list
abbrev stand_at : ℕ → Home → Stand
stand_at m (Same3 k) = stand (at k) (vqshl_at m) Nowhere
stand_at m (Shift k) = stand none (at k) Nowhere
stand_at m (Vmovl k) = stand none none (Vmovl k)
stand_at m (Modimm k) = stand none none (Modimm k)
stand_at m (Diff k) = stand none none (Diff k)
stand_at m Vmov = stand none none Vmov
stand_at m Nowhere = stand none none Nowhere

stands : ℕ → List Home → List Stand
stands m [] = []
stands m (h ∷ hs) = stand_at m h ∷ stands (suc m) hs

stand-at : (m : ℕ) (hs : List Home) (k : ℕ) → k < length hs → get_or (stands m hs) k (stand_of "") ≡ stand_at (m + k) (get_or hs k Nowhere)
unfolding stands
stand-at m [] k h = absurd (not-suc-le-zero h)
stand-at m (x ∷ hs) zero h = rw add-zero
stand-at m (x ∷ hs) (suc k) h = rw (add-suc, ← suc-add) (stand-at (suc m) hs k (le_of_suc-le-suc h))

-- antt computes it for each name
computed : map stand_of names ≡ stands 0 homes
unfolding same3 shift_rows shift_cells vmovl modimm diff_rows diff_cells cells_of names place_in other_home homes stands
computed = refl

counted : length homes ≡ 346
unfolding homes
counted = refl

stood : (m : ℕ) → m < 346 → stand_of (name_of m) ≡ stand_at m (get_or homes m Nowhere)
unfolding name_of
stood m h =
    sym (get_or-map stand_of names m "")
    ∙ ap (λ (l : List Stand). get_or l m (stand_of "")) computed
    ∙ rw zero-add at (stand-at 0 homes m (rw counted h))

abbrev decided : Bool → Stand → Home
decided number (stand same shift other) = home_by number same shift other

-- the home that the list has for a number
abbrev pub listed_home : Bool → ℕ → Home
listed_home number m = decided number (stand_at m (get_or homes m Nowhere))

abbrev pub home_at : Bool → ℕ → Home
home_at number m = home_of (name_of m) number

pub no-home : (number : Bool) (m : ℕ) → 346 ≤ m → Nowhere ≡ home_at number m
unfolding home_of
no-home number m h = sym (ap (λ (s : String). home_of s number) (no_name m h))

below : (number : Bool) (m : ℕ) → m < 346 → home_at number m ≡ listed_home number m
unfolding home_of
below number m h =
    ap (λ (t : Bool). choose t Nowhere (decided number (stand_of (name_of m)))) (named m h)
    ∙ ap (decided number) (stood m h)

unlisted : (number : Bool) (m : ℕ) → 346 ≤ m → listed_home number m ≡ Nowhere
unlisted number m h =
    ap (λ (home : Home). decided number (stand_at m home)) (get_or-eq_default homes Nowhere (rw counted h)) ∙ nowhere number
  where
    nowhere : (number : Bool) → decided number (stand_at m Nowhere) ≡ Nowhere
    nowhere true = refl
    nowhere false = refl

-- the home of a number's mnemonic is the one that the list has
pub home-at : (number : Bool) (m : ℕ) → home_at number m ≡ listed_home number m
home-at number m = go (ltb m 346) refl
  where
    go : (b : Bool) → ltb m 346 ≡ b → home_at number m ≡ listed_home number m
    go true e = below number m (ltb-true m 346 e)
    go false e = let h = ltb-false m 346 e in sym (no-home number m h) ∙ sym (unlisted number m h)

-- and so is that of a spelling, where a number is known to have it
pub home-named : (m : ℕ) (s : String) → name_of m ≡ s → (number : Bool) → home_of s number ≡ listed_home number m
home-named m s e number = ap (λ (t : String). home_of t number) (sym e) ∙ home-at number m

-- a number as the third operand changes VQSHL's home alone
same : (m : ℕ) → vqshl_at m ≡ none → (h : Home) → decided false (stand_at m h) ≡ decided true (stand_at m h)
same m e (Same3 k) = sym (ap (λ (shift : Found). decided true (stand (at k) shift Nowhere)) e)
same m e (Shift k) = refl
same m e (Vmovl k) = refl
same m e (Modimm k) = refl
same m e (Diff k) = refl
same m e Vmov = refl
same m e Nowhere = refl

pub plain : (m : ℕ) → vqshl_at m ≡ none → home_at false m ≡ home_at true m
plain m e = home-at false m ∙ same m e (get_or homes m Nowhere) ∙ sym (home-at true m)
