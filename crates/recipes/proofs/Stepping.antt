-- The pairs of steps, one after another.
-- Assumes nothing.
use mathlib.Core.Path.{◌≡◌, refl, sym, ◌∙◌, ap}
use mathlib.Core.List.{List, [], ◌∷◌, ◌++◌, append_assoc, append-nil}
use Prim.Native.Nat.{ℕ, ◌+◌, ◌*◌}
use native.Mathlib.Numerals.{add-one}
use native.Mathlib.Omega.{arith}
use lib.ListN.{length, length-append}
use Rattle.insn.specs.declared.Insn.{Insn}
use Rattle.steps.specs.declared.Step.{Step}
use Rattle.steps.specs.Steps.{step_at, steps_from}
use Rattle.steps.proofs.Stepping.{steps-snoc}
use Rattle.recipes.specs.Pairs.{pairs_by, pairs_of}

pairs-append : (xs ys : List Step) → pairs_of (xs ++ ys) ≡ pairs_of xs ++ pairs_of ys
unfolding pairs_of
pairs-append [] ys = refl
pairs-append (x ∷ xs) ys = rw (pairs-append xs ys) (sym (append_assoc (pairs_by x.kind x) (pairs_of xs) (pairs_of ys)))

module _ (s : List ℕ) (i : ℕ) where
  abbrev next : Step
  next = step_at s (24 * i)

  pub pairs-snoc : pairs_of (steps_from s 0 (i + 1)) ≡ pairs_of (steps_from s 0 i) ++ pairs_by next.kind next
  unfolding pairs_of
  pairs-snoc =
      let e : 0 + i ≡ i = omega arith in
      rw (add-one, steps-snoc s 0 i, e, pairs-append (steps_from s 0 i) (next ∷ [])) (ap (λ (l : List Insn). pairs_of (steps_from s 0 i) ++ l) (append-nil (pairs_by next.kind next)))

  pub count-snoc : length (pairs_of (steps_from s 0 (i + 1))) ≡ length (pairs_of (steps_from s 0 i)) + length (pairs_by next.kind next)
  count-snoc = ap length pairs-snoc ∙ length-append (pairs_of (steps_from s 0 i)) (pairs_by next.kind next)
