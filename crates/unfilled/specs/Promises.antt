-- Promises beyond the contract; proofs/Promises.antt proves each under its name.
-- Assumes nothing.
use Rattle.std.specs.Prelude.{Bool, true, false, List, [], ◌∷◌, ◌≡◌, ◌+◌, ◌^◌, eqb, ℕ, Option}
use Rattle.laws.specs.Search.{Found, at, none, found}
use Rattle.steps.specs.declared.Step.{Step}
use Rattle.steps.specs.declared.Terms.{Terms}
use Rattle.steps.specs.Faults.{terms, Fault, sound, fault, first_fault}
use Rattle.steps.specs.Promises.{sum, more, copied, no_step, picked}
use Rattle.unfilled.specs.Rows.{unfilled_row}

-- a fault is a 16
abbrev pub is_sixteen : Fault → Bool
is_sixteen sound = false
is_sixteen (fault n i) = eqb n 16

-- a row is named
abbrev pub is_named : Found → Bool
is_named (at r) = true
is_named none = false

-- a row is named exactly where the first fault is a 16
abbrev pub UnfilledExactly : Type 0
UnfilledExactly = (t : Terms) (steps : List Step) → is_named (unfilled_row t steps) ≡ is_sixteen (first_fault t steps)

-- worked rows, each with its list and its steps
pub record WorkedRows : Type 0 where
  pub both-filled : unfilled_row (terms (2 ^ 0 + 2 ^ 1)) (sum ∷ copied ∷ []) ≡ none
  pub b-not-filled : unfilled_row (terms (2 ^ 0)) (sum ∷ copied ∷ []) ≡ at 1
  pub neither-filled : unfilled_row (terms 0) (sum ∷ []) ≡ at 0
  pub own-target : unfilled_row (terms (2 ^ 0)) (more ∷ []) ≡ at 2
  pub at-a-later-step : unfilled_row (terms (2 ^ 0 + 2 ^ 1)) (sum ∷ copied ∷ more ∷ picked ∷ []) ≡ at 8
  pub sixteen-then-thirteen : unfilled_row (terms 0) (copied ∷ no_step ∷ []) ≡ at 2
  pub thirteen-then-sixteen : unfilled_row (terms 0) (no_step ∷ copied ∷ []) ≡ none

-- an answer says which case it is
abbrev pub UnfilledApart : Type 0
UnfilledApart = (x y : Option ℕ) → found x ≡ found y → x ≡ y
