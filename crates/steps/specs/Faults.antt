-- What is wrong with a sheet's steps: document 01, 'Refusals from the input', and document 02, F-6.
-- Assumes nothing.
use Rattle.std.specs.Prelude.{Bool, true, false, not, List, [], ◌∷◌, ◌≡◌, ℕ, ◌%◌, eqb, ltb, length}
use Rattle.laws.specs.AnswerAt.{AnswerAt, refused, refused_at}
use Rattle.laws.specs.Choice.{choose, both, either}
use Rattle.steps.specs.declared.Step.{Step}
use Rattle.steps.specs.declared.Terms.{Terms}
use Rattle.steps.specs.Rules.{keeps}
use Rattle.steps.specs.Reads.{reads}
use Rattle.steps.specs.Sets.{in_set}

-- what a translation comes with: the set of the rows that were filled beforehand
abbrev pub terms : ℕ → Terms
terms filled = record { filled = filled }

-- row r is the target of one of the steps
abbrev pub set_by : List Step → ℕ → Bool
set_by [] r = false
set_by (s ∷ steps) r = either (eqb s.target r) (set_by steps r)

-- somebody filled row r: it is in the list, or the target of an earlier step
abbrev pub is_filled : Terms → List Step → ℕ → Bool
is_filled t earlier r = either (in_set t.filled r) (set_by earlier r)

-- a test holds of every row of a list
abbrev pub every : (ℕ → Bool) → List ℕ → Bool
every p [] = true
every p (r ∷ rs) = both (p r) (every p rs)

-- every step reads rows that are filled before it, where `earlier` are the steps before the first of them
abbrev pub FilledAfter : Terms → List Step → List Step → Type 0
FilledAfter t earlier [] = Unit {0}
FilledAfter t earlier (s ∷ steps) = (every (is_filled t earlier) (reads s) ≡ true) × FilledAfter t (s ∷ earlier) steps

-- every step of a whole sheet does
abbrev pub AllFilled : Terms → List Step → Type 0
AllFilled t steps = FilledAfter t [] steps

-- no fault; or a refusal's number and the index of its step
pub data Fault : Type 0 where
  sound : Fault
  fault : ℕ → ℕ → Fault

-- the first of two steps' faults
abbrev pub first_of : Fault → Fault → Fault
first_of sound later = later
first_of (fault n i) later = fault n i

-- the fault of step i: it breaks a rule; it reads a row that is not filled before it
unfoldable pub step_fault : (ℕ → Bool) → ℕ → Step → Fault
step_fault filled i s =
    choose (not (keeps s)) (fault 13 i)
    (choose (not (every filled (reads s))) (fault 16 i)
    sound)

-- the first fault of steps, where `earlier` are the steps before them; a step's index is how many steps are before it
unfoldable pub fault_after : Terms → List Step → List Step → Fault
fault_after t earlier [] = sound
fault_after t earlier (s ∷ steps) = let later = fault_after t (s ∷ earlier) steps in first_of (step_fault (is_filled t earlier) (length earlier) s) later

-- the first fault of a whole sheet
abbrev pub first_fault : Terms → List Step → Fault
first_fault t steps = fault_after t [] steps

-- a fault is refused with the index of its step
abbrev pub unless_fault : {A : Type 0} → Fault → AnswerAt A → AnswerAt A
unless_fault sound answer = answer
unless_fault (fault n i) answer = refused_at n i

-- a sheet is refused for its length, then for the first fault of its steps; the answer is given where it is not
abbrev pub unless_refused : {A : Type 0} → List ℕ → Fault → AnswerAt A → AnswerAt A
unless_refused bytes first answer =
    choose (not (eqb (length bytes % 24) 0)) (refused 12)
    (choose (ltb 6144 (length bytes)) (refused 12)
    (unless_fault first answer))
