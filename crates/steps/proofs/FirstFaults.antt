-- What a list of filled rows says of a sheet's first fault.
-- Assumes nothing.
use mathlib.Core.Path.{◌≡◌, refl, sym, ◌∙◌, ap}
use mathlib.Core.Bool.{Bool, true, false, ◌||◌}
use mathlib.Core.List.{List, [], ◌∷◌}
use Prim.Native.Nat.{ℕ, suc, ◌+◌, ◌-◌, ◌/◌, ◌%◌, ◌^◌, ◌<◌}
use native.Mathlib.Omega.{arith}
use lib.Dec.{eqb}
use lib.ListN.{length}
use lib.Pow.{field, mod-mod-pow}
use Rattle.laws.specs.Choice.{choose}
use Rattle.steps.specs.declared.Step.{Step}
use Rattle.steps.specs.declared.Terms.{Terms}
use Rattle.steps.specs.Faults.{terms, set_by, is_filled, every, FilledAfter, Fault, sound, fault, first_of, step_fault, fault_after}
use Rattle.steps.specs.Promises.{first_broken, HasAll, Within, SoundExactly, MarksAbove, AllRowsFilled, LargerAllows}
use Rattle.steps.specs.Reads.{reads}
use Rattle.steps.specs.Rules.{keeps, AllKeep}
use Rattle.steps.specs.Sets.{in_set}
use Rattle.steps.proofs.Filling.{reads-below, every-within, breaks-rule, by_reads, keeps-rule, same-fault, not_sound}
use Rattle.steps.proofs.Sets.{or_left}

-- no fault, exactly
passes : (t : Terms) (earlier steps : List Step) → fault_after t earlier steps ≡ sound → AllKeep steps × FilledAfter t earlier steps
unfolding fault_after
passes t earlier [] h = (tt, tt)
passes t earlier (s ∷ steps) h = go (keeps s) refl (every (is_filled t earlier) (reads s)) refl (passes t (s ∷ earlier) steps)
  where
    with_first : (x : Fault) → step_fault (is_filled t earlier) (length earlier) s ≡ x → first_of x (fault_after t (s ∷ earlier) steps) ≡ sound
    with_first x e = ap (λ (x : Fault). first_of x (fault_after t (s ∷ earlier) steps)) (sym e) ∙ h

    go : (k : Bool) → keeps s ≡ k → (f : Bool) → every (is_filled t earlier) (reads s) ≡ f
        → (fault_after t (s ∷ earlier) steps ≡ sound → AllKeep steps × FilledAfter t (s ∷ earlier) steps) → AllKeep (s ∷ steps) × FilledAfter t earlier (s ∷ steps)
    go true p true q rest = let r = rest (with_first sound (keeps-rule (is_filled t earlier) (length earlier) s p ∙ ap (λ (x : Bool). by_reads x (length earlier)) q)) in ((p, r.0), (q, r.1))
    go true p false q rest = not_sound 16 (length earlier) (with_first (fault 16 (length earlier)) (keeps-rule (is_filled t earlier) (length earlier) s p ∙ ap (λ (x : Bool). by_reads x (length earlier)) q))
    go false p f q rest = not_sound 13 (length earlier) (with_first (fault 13 (length earlier)) (breaks-rule (is_filled t earlier) (length earlier) s p))

found : (t : Terms) (earlier steps : List Step) → AllKeep steps × FilledAfter t earlier steps → fault_after t earlier steps ≡ sound
unfolding fault_after
found t earlier [] a = refl
found t earlier (s ∷ steps) a =
    rw (keeps-rule (is_filled t earlier) (length earlier) s a.0.0, a.1.0) (found t (s ∷ earlier) steps (a.0.1, a.1.1))

pub sound_exactly : SoundExactly
sound_exactly t steps = (passes t [] steps, found t [] steps)

-- lists with the same rows of the sheet
first-same : (t u : Terms) → ((r : ℕ) → r < 14 → in_set t.filled r ≡ in_set u.filled r) → (earlier steps : List Step) → fault_after t earlier steps ≡ fault_after u earlier steps
unfolding fault_after
first-same t u f earlier [] = refl
first-same t u f earlier (s ∷ steps) =
    let here = same-fault (is_filled t earlier) (is_filled u earlier) (length earlier) s (λ r h. ap (λ (x : Bool). x || set_by earlier r) (f r h)) in
    λ i. first_of (here i) (first-same t u f (s ∷ earlier) steps i)

-- the lowest n rows of a set
pub marked-low : (a n r : ℕ) → r < n → in_set (a % 2 ^ n) r ≡ in_set a r
unfolding in_set
marked-low a n r h =
    let e : n ≡ n - r - 1 + 1 + r = omega arith in
    ap (λ (x : ℕ). eqb x 1)
    (ap (λ (m : ℕ). a % 2 ^ m / 2 ^ r % 2) e ∙ ap (λ (x : ℕ). x % 2) (field a (n - r - 1 + 1) r) ∙ mod-mod-pow (a / 2 ^ r) (n - r - 1) 1)

pub marks_above : MarksAbove
marks_above filled steps = first-same (terms filled) (terms (filled % 2 ^ 14)) (λ r h. sym (marked-low filled 14 r h)) [] steps

-- all rows in the list
every_true : (rs : List ℕ) → every (λ (r : ℕ). true) rs ≡ true
every_true [] = refl
every_true (r ∷ rs) = every_true rs

only-rules : (t : Terms) → HasAll t → (earlier steps : List Step) → fault_after t earlier steps ≡ first_broken (length earlier) steps
unfolding fault_after first_broken
only-rules t all earlier [] = refl
only-rules t all earlier (s ∷ steps) = go (keeps s) refl (only-rules t all (s ∷ earlier) steps)
  where
    go : (k : Bool) → keeps s ≡ k → fault_after t (s ∷ earlier) steps ≡ first_broken (suc (length earlier)) steps
        → first_of (step_fault (is_filled t earlier) (length earlier) s) (fault_after t (s ∷ earlier) steps) ≡ choose (keeps s) (first_broken (suc (length earlier)) steps) (fault 13 (length earlier))
    go true e rest =
        let f = every-within (λ (r : ℕ). true) (is_filled t earlier) (reads s) (reads-below s e) (λ r h p. or_left (in_set t.filled r) (set_by earlier r) (all r h)) (every_true (reads s)) in
        rw (keeps-rule (is_filled t earlier) (length earlier) s e, f, e) rest
    go false e rest = rw (breaks-rule (is_filled t earlier) (length earlier) s e, e) refl

pub all_rows_filled : AllRowsFilled
all_rows_filled t steps all = only-rules t all [] steps

-- a larger list
or-within : (p q r : Bool) → (p ≡ true → q ≡ true) → p || r ≡ true → q || r ≡ true
or-within true q r f e = or_left q r (f refl)
or-within false true r f e = refl
or-within false false r f e = e

still-filled : (t u : Terms) → Within t u → (earlier steps : List Step) → AllKeep steps → FilledAfter t earlier steps → FilledAfter u earlier steps
still-filled t u w earlier [] k a = tt
still-filled t u w earlier (s ∷ steps) k a = (
  every-within (is_filled t earlier) (is_filled u earlier) (reads s) (reads-below s k.0) (λ r h. or-within (in_set t.filled r) (in_set u.filled r) (set_by earlier r) (w r h)) a.0,
  still-filled t u w (s ∷ earlier) steps k.1 a.1,
)

pub larger_allows : LargerAllows
larger_allows small large steps w e =
    let a = passes small [] steps e in
    found large [] steps (a.0, still-filled small large w [] steps a.0 a.1)
