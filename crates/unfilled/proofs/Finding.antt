-- The row that nobody filled, by the code's columns and by its loop.
-- Assumes nothing.
use mathlib.Core.Path.{◌≡◌, refl, sym, ◌∙◌, ap}
use mathlib.Core.Bool.{Bool, true, false, not, ◌&&◌}
use mathlib.Core.List.{List, [], ◌∷◌}
use Prim.Native.Nat.{ℕ, zero, suc, ◌+◌, ◌-◌, ◌*◌, ◌%◌, ◌^◌, ◌<◌, ◌≤◌}
use native.Mathlib.Nat.{zero-add, sub-zero}
use native.Mathlib.Omega.{arith}
use lib.Bits.{bit_or}
use lib.Dec.{leb}
use borrow.Author.Tests.{not-true, not-false}
use Rattle.laws.specs.Choice.{choose, both}
use Rattle.laws.specs.Search.{Found, at, none}
use Rattle.steps.specs.declared.Step.{Step}
use Rattle.steps.specs.declared.Terms.{Terms}
use Rattle.steps.specs.Faults.{every, fault, step_fault, fault_after, first_fault}
use Rattle.steps.specs.Reads.{reads_by, reads}
use Rattle.steps.specs.Own.{limit}
use Rattle.steps.specs.Rules.{table, uses_of, keeps}
use Rattle.steps.specs.Sets.{in_set}
use Rattle.steps.specs.Steps.{step_at, steps_from}
use Rattle.steps.proofs.Each.{each}
use Rattle.steps.proofs.Filling.{breaks-rule, by_reads, keeps-rule, Known, known_start, known-after, fault-here, fault-later, fault-none}
use Rattle.steps.proofs.Kept.{kept_of}
use Rattle.steps.proofs.Stepping.{before, before-length}
use Rattle.unfilled.specs.Promises.{is_named}
use Rattle.unfilled.specs.Rows.{first_not, row_at_step, row_of_fault, unfilled_row}
use Rattle.unfilled.proofs.Places.{joined, row-there}

module _ (s : Step) (set : ℕ) where
  abbrev Searched : ℕ → Type 0
  Searched k =
      first_not (in_set set) (reads_by k s)
      ≡ choose (both (leb 2 (limit (uses_of k).a)) (not (in_set set s.a))) (at s.a)
      (choose (both (leb 2 (limit (uses_of k).b)) (not (in_set set s.b))) (at s.b)
      (choose (both (leb 2 (limit (uses_of k).c)) (not (in_set set s.c))) (at s.c)
      none))

  -- a byte with one value is not used
  pub reads-searched : (k : ℕ) → k < 15 → Searched k
  unfolding reads_by table first_not
  reads-searched =
      each Searched 15
      (refl, (refl, (refl, (refl, (refl, (refl, (refl, (refl, (refl, (refl, (refl, (refl, (refl, (refl, (refl, tt)))))))))))))))

-- a row of a list is named exactly where not all pass the test
pub named : (p : ℕ → Bool) (rs : List ℕ) → is_named (first_not p rs) ≡ not (every p rs)
unfolding first_not
named p [] = refl
named p (r ∷ rs) = go (p r) (named p rs)
  where
    go : (b : Bool) → is_named (first_not p rs) ≡ not (every p rs) → is_named (choose (not b) (at r) (first_not p rs)) ≡ not (b && every p rs)
    go true e = e
    go false e = refl

-- the steps before step i and those from it on are the sheet's
whole : (s : List ℕ) (i m : ℕ) → joined (before s i) (steps_from s i m) ≡ steps_from s 0 (i + m)
unfolding steps_from
whole s zero m = rw zero-add
whole s (suc i) m = let e : suc i + m ≡ i + suc m = omega arith in rw e (whole s i (suc m))

-- the loop is at step i with no fault before it, and a set has the rows that are filled by then
abbrev pub Reached : Terms → List ℕ → ℕ → ℕ → ℕ → Type 0
Reached t s n i set =
    (first_fault t (steps_from s 0 n) ≡ fault_after t (before s i) (steps_from s i (n - i))) × Known t (before s i) set

pub reached-start : (t : Terms) (s : List ℕ) (n : ℕ) → Reached t s n 0 t.filled
reached-start t s n = (rw sub-zero, known_start t)

module _ (t : Terms) (s : List ℕ) (n i set : ℕ) (reached : Reached t s n i set) where
  abbrev step : Step
  step = step_at s (24 * i)

  abbrev row : Found
  row = unfilled_row t (steps_from s 0 n)

  -- the row at step i, by the set
  there : i < n → row_at_step t (steps_from s 0 n) i ≡ first_not (in_set set) (reads step)
  unfolding steps_from
  there h =
      let m = n - suc i in
      let g : n ≡ i + suc m = omega arith in
      ap (λ (l : List Step). row_at_step t l i) (ap (steps_from s 0) g ∙ sym (whole s i (suc m)))
      ∙ ap (row_at_step t (joined (before s i) (step ∷ steps_from s (suc i) m))) (sym (before-length s i))
      ∙ row-there t (before s i) step (steps_from s (suc i) m)
      ∙ (λ j. first_not (λ (r : ℕ). sym (reached.1 r) j) (reads step))

  -- a fault of step i is the sheet's first, and the row goes by it
  faulted : i < n → (m : ℕ) → step_fault (in_set set) i step ≡ fault m i → row ≡ row_of_fault t (steps_from s 0 n) (fault m i)
  faulted h m e = ap (row_of_fault t (steps_from s 0 n)) (reached.0 ∙ fault-here t s n i set reached.1 h m e)

  pub row-broken : i < n → keeps step ≡ false → row ≡ none
  row-broken h k = faulted h 13 (breaks-rule (in_set set) i step k)

  -- the fault of a step that keeps the rules goes by its reads
  by-reads : keeps step ≡ true → (b : Bool) → every (in_set set) (reads step) ≡ b → step_fault (in_set set) i step ≡ by_reads b i
  by-reads k b e = keeps-rule (in_set set) i step k ∙ ap (λ (x : Bool). by_reads x i) e

  pub row_here : i < n → keeps step ≡ true → (r : ℕ) → first_not (in_set set) (reads step) ≡ at r → row ≡ at r
  row_here h k r f =
      faulted h 16 (by-reads k false (not-true _ (sym (named (in_set set) (reads step)) ∙ ap is_named f))) ∙ there h ∙ f

  pub row-later : i < n → keeps step ≡ true → first_not (in_set set) (reads step) ≡ none
      → (next : ℕ) → next ≡ bit_or set (2 ^ (step.target % 16)) → Reached t s n (i + 1) next
  row-later h k f next e =
      let quiet = by-reads k true (not-false _ (sym (named (in_set set) (reads step)) ∙ ap is_named f)) in
      (reached.0 ∙ fault-later t s n i set reached.1 h quiet, known-after t s n i set reached.1 next (kept_of step k).target e)

  pub row-none : n ≤ i → row ≡ none
  row-none h = ap (row_of_fault t (steps_from s 0 n)) (reached.0 ∙ fault-none t s n i set reached.1 h)
