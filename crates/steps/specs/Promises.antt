-- Promises beyond the contracts; proofs/Promises.antt proves each under its name.
-- Assumes nothing.
use Rattle.std.specs.Prelude.{true, List, [], ◌∷◌, ◌≢◌, ◌≡◌, ℕ, suc, ◌+◌, ◌%◌, ◌^◌, ◌<◌, length}
use Rattle.laws.specs.Choice.{choose, either}
use Rattle.steps.specs.declared.Step.{Step}
use Rattle.steps.specs.declared.Terms.{Terms}
use Rattle.steps.specs.Faults.{terms, set_by, AllFilled, Fault, sound, fault, first_fault}
use Rattle.steps.specs.Meaning.{row_at, value_by, taken, meaning}
use Rattle.steps.specs.Reads.{reads}
use Rattle.steps.specs.Rules.{keeps, AllKeep}
use Rattle.steps.specs.Sets.{in_set}

-- two lists of rows hold the same in the rows of a list
abbrev pub AgreeAt : List ℕ → List ℕ → List ℕ → Type 0
AgreeAt [] x y = Unit {0}
AgreeAt (r ∷ rs) x y = (row_at x r ≡ row_at y r) × AgreeAt rs x y

-- a step's value depends on the rows that it reads alone
abbrev pub ValueReads : Type 0
ValueReads = (s : Step) (x y : List ℕ) → AgreeAt (reads s) x y → value_by s.kind s x ≡ value_by s.kind s y

-- taking it changes its target alone
abbrev pub TargetAlone : Type 0
TargetAlone = (s : Step) (x : List ℕ) (r : ℕ) → r ≢ s.target → row_at (taken s x) r ≡ row_at x r

-- no fault is found exactly where every step keeps the rules and reads filled rows
abbrev pub SoundExactly : Type 0
SoundExactly =
    (t : Terms) (steps : List Step)
    → (first_fault t steps ≡ sound → AllKeep steps × AllFilled t steps) × (AllKeep steps × AllFilled t steps → first_fault t steps ≡ sound)

-- marks above row 13 are ignored
abbrev pub MarksAbove : Type 0
MarksAbove = (filled : ℕ) (steps : List Step) → first_fault (terms filled) steps ≡ first_fault (terms (filled % 2 ^ 14)) steps

-- document 01's first fault: the first step that breaks a rule, the steps' indices beginning at i
unfoldable pub first_broken : ℕ → List Step → Fault
first_broken i [] = sound
first_broken i (s ∷ steps) = let later = first_broken (suc i) steps in choose (keeps s) later (fault 13 i)

-- every row is in the list
abbrev pub HasAll : Terms → Type 0
HasAll t = (r : ℕ) → r < 14 → in_set t.filled r ≡ true

-- with all rows in the list that is the only fault
abbrev pub AllRowsFilled : Type 0
AllRowsFilled = (t : Terms) (steps : List Step) → HasAll t → first_fault t steps ≡ first_broken 0 steps

-- the rows that are in one list are in the other
abbrev pub Within : Terms → Terms → Type 0
Within small large = (r : ℕ) → r < 14 → in_set small.filled r ≡ true → in_set large.filled r ≡ true

-- a larger list refuses nothing that a smaller one allows
abbrev pub LargerAllows : Type 0
LargerAllows = (small large : Terms) (steps : List Step) → Within small large → first_fault small steps ≡ sound → first_fault large steps ≡ sound

-- what is read of the start is what was filled: two starts that hold the same in the rows of the list end with the same in
-- every row that is in the list or that a step sets
abbrev pub FilledAlone : Type 0
FilledAlone =
    (t : Terms) (steps : List Step) (x y : List ℕ) → AllKeep steps → AllFilled t steps → length x ≡ 14 → length y ≡ 14
    → ((r : ℕ) → r < 14 → in_set t.filled r ≡ true → row_at x r ≡ row_at y r)
    → (r : ℕ) → r < 14 → either (in_set t.filled r) (set_by steps r) ≡ true → row_at (meaning steps x) r ≡ row_at (meaning steps y) r

-- steps with a kind, a target, a and b, in lanes of the width of a code
abbrev pub step_of : ℕ → ℕ → ℕ → ℕ → ℕ → Step
step_of kind target a b width =
    record { kind = kind; target = target; a = a; b = b; c = 0; width = width; amount = 0; sign = 0; low = 0; high = 0 }

-- row 2 is the sum of rows 0 and 1
abbrev pub sum : Step
sum = step_of 2 2 0 1 2

-- row 2 is added to
abbrev pub more : Step
more = step_of 2 2 2 0 2

-- row 5 is a copy of row 2
abbrev pub copied : Step
copied = step_of 1 5 2 0 0

-- a product of 64-bit lanes, which there is not, of rows 5 and 6
abbrev pub no_step : Step
no_step = step_of 4 7 5 6 3

-- row 9 is a constant
abbrev pub constant : Step
constant = step_of 0 9 0 0 0

-- row 6 is by bit row 2 or row 5, as row 8 says
abbrev pub picked : Step
picked = record { kind = 14; target = 6; a = 2; b = 5; c = 8; width = 0; amount = 0; sign = 0; low = 0; high = 0 }

-- worked faults, each with its list and its steps
pub record WorkedFaults : Type 0 where
  pub both-filled : first_fault (terms (2 ^ 0 + 2 ^ 1)) (sum ∷ copied ∷ []) ≡ sound
  pub b-not-filled : first_fault (terms (2 ^ 0)) (sum ∷ copied ∷ []) ≡ fault 16 0
  pub own-target : first_fault (terms (2 ^ 0)) (more ∷ []) ≡ fault 16 0
  pub own-target-filled : first_fault (terms (2 ^ 0 + 2 ^ 1)) (sum ∷ more ∷ []) ≡ sound
  pub set-later : first_fault (terms (2 ^ 0 + 2 ^ 1)) (copied ∷ sum ∷ []) ≡ fault 16 0
  pub high-marks : first_fault (terms (2 ^ 14 + 2 ^ 15)) (copied ∷ []) ≡ fault 16 0
  pub rule-first : first_fault (terms 0) (no_step ∷ []) ≡ fault 13 0
  pub sixteen-then-thirteen : first_fault (terms 0) (copied ∷ no_step ∷ []) ≡ fault 16 0
  pub thirteen-then-sixteen : first_fault (terms 0) (no_step ∷ copied ∷ []) ≡ fault 13 0
  pub no_steps : first_fault (terms 0) [] ≡ sound
  pub unused-reads-nothing : first_fault (terms (2 ^ 2)) (copied ∷ constant ∷ []) ≡ sound
  pub set-long-before : first_fault (terms (2 ^ 0 + 2 ^ 1)) (sum ∷ constant ∷ copied ∷ []) ≡ sound
  pub c-not-filled : first_fault (terms (2 ^ 0 + 2 ^ 1)) (sum ∷ copied ∷ more ∷ picked ∷ []) ≡ fault 16 3
  pub c-filled : first_fault (terms (2 ^ 0 + 2 ^ 1 + 2 ^ 8)) (sum ∷ copied ∷ more ∷ picked ∷ []) ≡ sound
