-- Sorts counted one after another.
-- Assumes nothing.
use mathlib.Core.Path.{◌≡◌, refl}
use mathlib.Core.List.{List, [], ◌∷◌, ◌++◌}
use Prim.Native.Nat.{ℕ, ◌+◌, ◌≤◌}
use native.Mathlib.Nat.{add-zero}
use native.Mathlib.Omega.{arith}
use lib.ListN.{length}
use Rattle.laws.specs.Choice.{choose}
use Rattle.totals.specs.declared.Sort.{Sort}
use Rattle.totals.specs.declared.Sort.TheVariants.{Same, Diff, Shifted, Imm, Refused}
use Rattle.totals.specs.Totals.{column, is_sort, count, totals_text}
use Rattle.totals.specs.Own.{figure_in, counted}

-- the figures of a list of sorts, each in its column
abbrev pub figures : List Sort → List ℕ
figures sorts = count Same sorts ∷ count Diff sorts ∷ count Shifted sorts ∷ count Imm sorts ∷ count Refused sorts ∷ []

-- 1 for the same sort, else 0
abbrev once : Sort → Sort → ℕ
once s t = choose (is_sort s t) 1 0

count-last : (s : Sort) (sorts : List Sort) (t : Sort) → count s (sorts ++ t ∷ []) ≡ count s sorts + once s t
unfolding count
count-last s [] t = omega arith
count-last s (r ∷ rs) t = omega (arith, count-last s rs t)

once-in-all : (t : Sort) → once Same t + once Diff t + once Shifted t + once Imm t + once Refused t ≡ 1
unfolding column
once-in-all Same = refl
once-in-all Diff = refl
once-in-all Shifted = refl
once-in-all Imm = refl
once-in-all Refused = refl

pub all-counted : (sorts : List Sort) → count Same sorts + count Diff sorts + count Shifted sorts + count Imm sorts + count Refused sorts ≡ length sorts
unfolding count
all-counted [] = refl
all-counted (t ∷ ts) = omega (arith, once-in-all t, all-counted ts)

-- no figure is above the number of lines
pub figure-small : (sorts : List Sort) (s : Sort) → figure_in (figures sorts) s ≤ length sorts
unfolding column
figure-small sorts Same = omega (arith, all-counted sorts)
figure-small sorts Diff = omega (arith, all-counted sorts)
figure-small sorts Shifted = omega (arith, all-counted sorts)
figure-small sorts Imm = omega (arith, all-counted sorts)
figure-small sorts Refused = omega (arith, all-counted sorts)

grown : (sorts : List Sort) (t : Sort)
    → figures (sorts ++ t ∷ [])
    ≡ (count Same sorts + once Same t) ∷ (count Diff sorts + once Diff t) ∷ (count Shifted sorts + once Shifted t) ∷ (count Imm sorts + once Imm t) ∷ (count Refused sorts + once Refused t) ∷ []
grown sorts t = rw (count-last Same sorts t, count-last Diff sorts t, count-last Shifted sorts t, count-last Imm sorts t, count-last Refused sorts t)

-- one more of its sort, the others as they were
pub counted-last : (sorts : List Sort) (s : Sort) → counted (figures sorts) s ≡ figures (sorts ++ s ∷ [])
unfolding column
counted-last sorts Same = simp (grown sorts Same, add-zero)
counted-last sorts Diff = simp (grown sorts Diff, add-zero)
counted-last sorts Shifted = simp (grown sorts Shifted, add-zero)
counted-last sorts Imm = simp (grown sorts Imm, add-zero)
counted-last sorts Refused = simp (grown sorts Refused, add-zero)

-- their line
pub totals-of : (sorts : List Sort) → totals_text (figure_in (figures sorts)) ≡ totals_text (λ (s : Sort). count s sorts)
unfolding column totals_text
totals-of sorts = refl
