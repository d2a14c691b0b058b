-- A step's place among the steps of a sheet.
-- Assumes nothing.
use mathlib.Core.Path.{◌≡◌, refl, sym, ◌∙◌, ap}
use mathlib.Core.Bool.{Bool, ◌||◌, or-false, or_assoc, or_comm}
use mathlib.Core.List.{List, [], ◌∷◌}
use Prim.Native.Nat.{ℕ, suc, ◌+◌}
use native.Mathlib.Nat.{add-zero, zero-add}
use native.Mathlib.Omega.{arith}
use lib.Dec.{eqb}
use lib.ListN.{length, take, drop}
use Rattle.steps.specs.declared.Step.{Step}
use Rattle.steps.specs.declared.Terms.{Terms}
use Rattle.steps.specs.Faults.{set_by, is_filled}
use Rattle.steps.specs.Reads.{reads}
use Rattle.steps.specs.Sets.{in_set}
use Rattle.unfilled.specs.Rows.{first_not, first_reads, row_at_step}

-- steps after earlier ones, of which the last is first
abbrev pub joined : List Step → List Step → List Step
joined [] steps = steps
joined (s ∷ earlier) steps = joined earlier (s ∷ steps)

take-joined : (earlier steps : List Step) (k : ℕ) → take (length earlier + k) (joined earlier steps) ≡ joined earlier (take k steps)
take-joined [] steps k = rw zero-add
take-joined (s ∷ earlier) steps k =
    let e : suc (length earlier) + k ≡ length earlier + suc k = omega arith in
    rw e (take-joined earlier (s ∷ steps) (suc k))

drop-joined : (earlier steps : List Step) (k : ℕ) → drop (length earlier + k) (joined earlier steps) ≡ drop k steps
drop-joined [] steps k = rw zero-add
drop-joined (s ∷ earlier) steps k =
    let e : suc (length earlier) + k ≡ length earlier + suc k = omega arith in
    rw e (drop-joined earlier (s ∷ steps) (suc k))

-- which rows steps set does not depend on their order
set-joined : (earlier steps : List Step) (r : ℕ) → set_by (joined earlier steps) r ≡ set_by earlier r || set_by steps r
set-joined [] steps r = refl
set-joined (s ∷ earlier) steps r =
    set-joined earlier (s ∷ steps) r
    ∙ sym (or_assoc (set_by earlier r) (eqb s.target r) (set_by steps r))
    ∙ ap (λ (x : Bool). x || set_by steps r) (or_comm (set_by earlier r) (eqb s.target r))

module _ (t : Terms) (earlier : List Step) (s : Step) (steps : List Step) where
  set_before : (r : ℕ) → set_by (take (length earlier) (joined earlier (s ∷ steps))) r ≡ set_by earlier r
  set_before r =
      ap (λ (l : List Step). set_by l r) (rw add-zero at (take-joined earlier (s ∷ steps) 0))
      ∙ set-joined earlier [] r
      ∙ or-false (set_by earlier r)

  -- the row at a step goes by the steps before it, in any order
  pub row-there : row_at_step t (joined earlier (s ∷ steps)) (length earlier) ≡ first_not (is_filled t earlier) (reads s)
  row-there =
      ap (λ (l : List Step). first_not (is_filled t (take (length earlier) (joined earlier (s ∷ steps)))) (first_reads l)) (rw add-zero at (drop-joined earlier (s ∷ steps) 0))
      ∙ (λ j. first_not (λ (r : ℕ). in_set t.filled r || set_before r j) (reads s))
