-- Two starts that hold the same in the filled rows.
-- Assumes nothing.
use mathlib.Core.Path.{◌≡◌, refl, sym, ◌∙◌, ap, subst}
use mathlib.Core.Logic.{◌≢◌}
use mathlib.Core.Bool.{Bool, true, false, ◌||◌, or-false}
use mathlib.Core.List.{List, [], ◌∷◌}
use Prim.Native.Nat.{ℕ, ◌<◌}
use native.Mathlib.Omega.{arith}
use lib.Dec.{eqb}
use lib.ListN.{length, length-set}
use lib.Seq.{get_or-set_same}
use borrow.Author.Tests.{eqb-true, eqb-false}
use Rattle.laws.proofs.Never.{wrong}
use Rattle.laws.proofs.Tests.{both_true}
use Rattle.steps.specs.declared.Step.{Step}
use Rattle.steps.specs.declared.Terms.{Terms}
use Rattle.steps.specs.Faults.{set_by, is_filled, every, FilledAfter}
use Rattle.steps.specs.Meaning.{row_at, value_by, taken, meaning}
use Rattle.steps.specs.Promises.{AgreeAt, FilledAlone}
use Rattle.steps.specs.Reads.{reads}
use Rattle.steps.specs.Rules.{AllKeep}
use Rattle.steps.specs.Sets.{in_set}
use Rattle.steps.proofs.Drawn.{value-reads, taken-other}
use Rattle.steps.proofs.Filling.{Below, reads-below}
use Rattle.steps.proofs.Kept.{kept_of}

-- the same in every row that a test holds of
abbrev Alike : (ℕ → Bool) → List ℕ → List ℕ → Type 0
Alike p x y = (r : ℕ) → r < 14 → p r ≡ true → row_at x r ≡ row_at y r

-- so in all of a list
alike_at : (p : ℕ → Bool) (x y rs : List ℕ) → Alike p x y → Below rs → every p rs ≡ true → AgreeAt rs x y
alike_at p x y [] a b e = tt
alike_at p x y (r ∷ rs) a b e = let h = both_true (p r) (every p rs) e in (a r b.0 h.0, alike_at p x y rs a b.1 h.1)

taken-target : (s : Step) (x : List ℕ) → s.target < length x → row_at (taken s x) s.target ≡ value_by s.kind s x
unfolding taken
taken-target s x h = get_or-set_same x s.target (value_by s.kind s x) 0 h

taken-length : (s : Step) (x : List ℕ) → length (taken s x) ≡ length x
unfolding taken
taken-length s x = length-set x s.target (value_by s.kind s x)

-- a row that is filled after a step was filled before it, if it is not the step's target
unless-target : (p q r : Bool) → q ≡ false → p || (q || r) ≡ true → p || r ≡ true
unless-target p false r e h = h
unless-target p true r e h = wrong (sym e)

-- one that is filled at the end is filled after the first step, or is set by a later one
regrouped : (p q r s : Bool) → (p || r) || (q || s) ≡ true → (p || (q || r)) || s ≡ true
regrouped true q r s e = refl
regrouped false true r s e = refl
regrouped false false r s e = e

alike : (t : Terms) (earlier steps : List Step) (x y : List ℕ) → AllKeep steps → FilledAfter t earlier steps → length x ≡ 14 → length y ≡ 14
    → Alike (is_filled t earlier) x y → Alike (λ (r : ℕ). is_filled t earlier r || set_by steps r) (meaning steps x) (meaning steps y)
unfolding meaning
alike t earlier [] x y k f lx ly a r h e = a r h (sym (or-false (is_filled t earlier r)) ∙ e)
alike t earlier (s ∷ steps) x y k f lx ly a r h e =
    alike t (s ∷ earlier) steps (taken s x) (taken s y) k.1 f.1 (taken-length s x ∙ lx) (taken-length s y ∙ ly) after r h
    (regrouped (in_set t.filled r) (eqb s.target r) (set_by earlier r) (set_by steps r) e)
  where
    same-value : value_by s.kind s x ≡ value_by s.kind s y
    same-value = value-reads s x y (alike_at (is_filled t earlier) x y (reads s) a (reads-below s k.0) f.0)

    at_target : row_at (taken s x) s.target ≡ row_at (taken s y) s.target
    at_target =
        let b = (kept_of s k.0).target in
        taken-target s x (omega (arith, lx)) ∙ same-value ∙ sym (taken-target s y (omega (arith, ly)))

    after : Alike (is_filled t (s ∷ earlier)) (taken s x) (taken s y)
    after r h e = go (eqb s.target r) refl
      where
        go : (b : Bool) → eqb s.target r ≡ b → row_at (taken s x) r ≡ row_at (taken s y) r
        go true g = subst (λ (q : ℕ). row_at (taken s x) q ≡ row_at (taken s y) q) (eqb-true s.target r g) at_target
        go false g =
            let n : r ≢ s.target = λ q. eqb-false s.target r g (sym q) in
            taken-other s x r n ∙ a r h (unless-target (in_set t.filled r) (eqb s.target r) (set_by earlier r) g e) ∙ sym (taken-other s y r n)

pub filled_alone : FilledAlone
filled_alone t steps x y k f lx ly a r h e =
    alike t [] steps x y k f lx ly (λ q g m. a q g (sym (or-false (in_set t.filled q)) ∙ m)) r h (ap (λ (x : Bool). x || set_by steps r) (or-false (in_set t.filled r)) ∙ e)
