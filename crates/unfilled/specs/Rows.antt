-- The row that a refusal with 16 is about: document 02, F-6.
-- Assumes nothing.
use Rattle.std.specs.Prelude.{Bool, not, List, [], ◌∷◌, ℕ, eqb, take, drop}
use Rattle.laws.specs.Choice.{choose}
use Rattle.laws.specs.Search.{Found, at, none}
use Rattle.steps.specs.declared.Step.{Step}
use Rattle.steps.specs.declared.Terms.{Terms}
use Rattle.steps.specs.Faults.{is_filled, Fault, sound, fault, first_fault}
use Rattle.steps.specs.Reads.{reads}

-- the first row of a list that a test does not hold of
unfoldable pub first_not : (ℕ → Bool) → List ℕ → Found
first_not p [] = none
first_not p (r ∷ rs) = let rest = first_not p rs in choose (not (p r)) (at r) rest

-- the rows that the first step of a list reads; none where there is no step
abbrev pub first_reads : List Step → List ℕ
first_reads [] = []
first_reads (s ∷ steps) = reads s

-- the first row that step i of a sheet reads and that is neither in the list nor set by a step before it
abbrev pub row_at_step : Terms → List Step → ℕ → Found
row_at_step t steps i = first_not (is_filled t (take i steps)) (first_reads (drop i steps))

-- the row that a fault of a sheet is about, where it is a 16
abbrev pub row_of_fault : Terms → List Step → Fault → Found
row_of_fault t steps sound = none
row_of_fault t steps (fault n i) = choose (eqb n 16) (row_at_step t steps i) none

-- the row that the first fault of a sheet is about
abbrev pub unfilled_row : Terms → List Step → Found
unfilled_row t steps = row_of_fault t steps (first_fault t steps)
