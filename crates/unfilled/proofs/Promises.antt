-- The promises of specs/Promises.antt.
-- Assumes nothing.
use mathlib.Core.Path.{◌≡◌, refl, ◌∙◌, ap}
use mathlib.Core.Bool.{Bool, true, false, not}
use mathlib.Core.List.{List, [], ◌∷◌}
use lib.ListN.{length}
use Rattle.laws.specs.Choice.{choose}
use Rattle.laws.proofs.Found.{found_apart}
use Rattle.steps.specs.declared.Step.{Step}
use Rattle.steps.specs.declared.Terms.{Terms}
use Rattle.steps.specs.Faults.{is_filled, every, Fault, sound, fault, first_of, step_fault, fault_after}
use Rattle.steps.specs.Reads.{reads_by, reads}
use Rattle.steps.specs.Rules.{table, keeps_rows, keeps_numbers, keeps}
use Rattle.steps.specs.Sets.{in_set}
use Rattle.unfilled.specs.Promises.{is_sixteen, is_named, UnfilledExactly, WorkedRows, UnfilledApart}
use Rattle.unfilled.specs.Rows.{first_not, row_of_fault}
use Rattle.unfilled.proofs.Finding.{named}
use Rattle.unfilled.proofs.Places.{joined, row-there}

module _ (t : Terms) where
  -- a fault of a sheet names a row exactly where it is a 16
  abbrev Exactly : List Step → Fault → Type 0
  Exactly steps f = is_named (row_of_fault t steps f) ≡ is_sixteen f

  exactly : (earlier steps : List Step) → Exactly (joined earlier steps) (fault_after t earlier steps)
  unfolding fault_after step_fault
  exactly earlier [] = refl
  exactly earlier (s ∷ steps) =
      go (keeps s) (every (is_filled t earlier) (reads s)) refl (exactly (s ∷ earlier) steps)
    where
      sheet : List Step
      sheet = joined earlier (s ∷ steps)

      go : (k e : Bool) → every (is_filled t earlier) (reads s) ≡ e → Exactly sheet (fault_after t (s ∷ earlier) steps)
          → Exactly sheet (first_of (choose (not k) (fault 13 (length earlier)) (choose (not e) (fault 16 (length earlier)) sound)) (fault_after t (s ∷ earlier) steps))
      go true true h rest = rest
      go true false h rest = ap is_named (row-there t earlier s steps) ∙ named (is_filled t earlier) (reads s) ∙ ap not h
      go false e h rest = refl

pub unfilled_exactly : UnfilledExactly
unfilled_exactly t steps = exactly t [] steps

pub worked_rows : WorkedRows
unfolding fault_after step_fault first_not keeps keeps_rows keeps_numbers reads_by table in_set
worked_rows = record { both-filled = refl; b-not-filled = refl; neither-filled = refl; own-target = refl; at-a-later-step = refl; sixteen-then-thirteen = refl; thirteen-then-sixteen = refl }

pub unfilled_apart : UnfilledApart
unfilled_apart = found_apart
