-- Which rows are filled before a step, and its fault by them.
-- Assumes nothing.
use mathlib.Core.Path.{◌≡◌, refl, sym, ◌∙◌, ap}
use mathlib.Core.Bool.{Bool, true, false, not, ◌&&◌, ◌||◌, or-false, or_assoc, or_comm}
use mathlib.Core.List.{List, [], ◌∷◌}
use Prim.Native.Nat.{ℕ, suc, ◌+◌, ◌-◌, ◌*◌, ◌%◌, ◌^◌, ◌≤◌, ◌<◌}
use native.Mathlib.Nat.{mod-eq_of_lt}
use native.Mathlib.Numerals.{add-one}
use native.Mathlib.Omega.{arith}
use lib.Bits.{bit_or}
use lib.Dec.{eqb}
use Rattle.laws.specs.Choice.{choose}
use Rattle.laws.proofs.Never.{never}
use Rattle.laws.proofs.Tests.{both_true, same_tests}
use Rattle.steps.specs.declared.Step.{Step}
use Rattle.steps.specs.declared.Terms.{Terms}
use Rattle.steps.specs.Faults.{set_by, is_filled, every, Fault, sound, fault, step_fault, fault_after}
use Rattle.steps.specs.Reads.{used_row, reads_by, reads}
use Rattle.steps.specs.Rules.{Use, unused, up_to, below, uses_of, keeps}
use Rattle.steps.specs.Sets.{in_set}
use Rattle.steps.specs.Steps.{step_at, steps_from}
use Rattle.steps.proofs.Kept.{a_small, b-small, c-small}
use Rattle.steps.proofs.Sets.{marked-or, marked-alone}
use Rattle.steps.proofs.Stepping.{before, before-length}

-- all rows of a list are rows of the sheet
abbrev pub Below : List ℕ → Type 0
Below [] = Unit {0}
Below (r ∷ rs) = (r < 14) × Below rs

used-below : (u : Use) (r : ℕ) (rs : List ℕ) → r < 14 → Below rs → Below (used_row u r rs)
used-below unused r rs h b = b
used-below (up_to n) r rs h b = (h, b)
used-below (below n) r rs h b = (h, b)

pub reads-below : (s : Step) → keeps s ≡ true → Below (reads s)
unfolding reads_by
reads-below s e =
    let u = uses_of s.kind in
    let c = used_row u.c s.c [] in
    used-below u.a s.a (used_row u.b s.b c) (a_small s e) (used-below u.b s.b c (b-small s e) (used-below u.c s.c [] (c-small s e) tt))

-- a test that holds of every row holds too where it follows from one that does
both_hold : (p q : Bool) → p ≡ true → q ≡ true → p && q ≡ true
both_hold true q e f = f
both_hold false q e f = e

pub every-within : (p q : ℕ → Bool) (rs : List ℕ) → Below rs → ((r : ℕ) → r < 14 → p r ≡ true → q r ≡ true) → every p rs ≡ true → every q rs ≡ true
every-within p q [] b f e = refl
every-within p q (r ∷ rs) b f e =
    let h = both_true (p r) (every p rs) e in
    both_hold (q r) (every q rs) (f r b.0 h.0) (every-within p q rs b.1 f h.1)

every-same : (p q : ℕ → Bool) (rs : List ℕ) → Below rs → ((r : ℕ) → r < 14 → p r ≡ q r) → every p rs ≡ every q rs
every-same p q rs b f =
    same_tests (every p rs) (every q rs) (every-within p q rs b (λ r h e. sym (f r h) ∙ e)) (every-within q p rs b (λ r h e. f r h ∙ e))

-- a step that breaks a rule gets 13, whatever it reads; one that keeps them has 16 alone to fear
pub breaks-rule : (p : ℕ → Bool) (i : ℕ) (s : Step) → keeps s ≡ false → step_fault p i s ≡ fault 13 i
unfolding step_fault
breaks-rule p i s e = rw e refl

abbrev pub by_reads : Bool → ℕ → Fault
by_reads all_in i = choose (not all_in) (fault 16 i) sound

pub keeps-rule : (p : ℕ → Bool) (i : ℕ) (s : Step) → keeps s ≡ true → step_fault p i s ≡ by_reads (every p (reads s)) i
unfolding step_fault
keeps-rule p i s e = rw e refl

-- so its fault goes by the rows of the sheet alone
pub same-fault : (p q : ℕ → Bool) (i : ℕ) (s : Step) → ((r : ℕ) → r < 14 → p r ≡ q r) → step_fault p i s ≡ step_fault q i s
same-fault p q i s f = go (keeps s) refl
  where
    go : (k : Bool) → keeps s ≡ k → step_fault p i s ≡ step_fault q i s
    go true e =
        keeps-rule p i s e ∙ ap (λ (x : Bool). by_reads x i) (every-same p q (reads s) (reads-below s e) f) ∙ sym (keeps-rule q i s e)
    go false e = breaks-rule p i s e ∙ sym (breaks-rule q i s e)

-- a set has the rows that are filled before a step
abbrev pub Known : Terms → List Step → ℕ → Type 0
Known t earlier set = (r : ℕ) → in_set set r ≡ is_filled t earlier r

pub known_start : (t : Terms) → Known t [] t.filled
known_start t r = sym (or-false (in_set t.filled r))

pub known_next : (t : Terms) (earlier : List Step) (set : ℕ) (s : Step) → Known t earlier set → Known t (s ∷ earlier) (bit_or set (2 ^ s.target))
known_next t earlier set s k r =
    marked-or set (2 ^ s.target) r
    ∙ ap (λ (x : Bool). x || in_set (2 ^ s.target) r) (k r)
    ∙ ap (λ (x : Bool). is_filled t earlier r || x) (marked-alone s.target r)
    ∙ or_assoc (in_set t.filled r) (set_by earlier r) (eqb s.target r)
    ∙ ap (λ (x : Bool). in_set t.filled r || x) (or_comm (set_by earlier r) (eqb s.target r))

-- the loop that looks for the first fault, with the rows that are filled before step i
module _ (t : Terms) (s : List ℕ) (n i set : ℕ) (known : Known t (before s i) set) where
  abbrev found : Fault
  found = step_fault (in_set set) i (step_at s (24 * i))

  abbrev remains : Fault
  remains = fault_after t (before s i) (steps_from s i (n - i))

  by-list : step_fault (is_filled t (before s i)) i (step_at s (24 * i)) ≡ found
  by-list = same-fault (is_filled t (before s i)) (in_set set) i (step_at s (24 * i)) (λ r h. sym (known r))

  pub fault-here : i < n → (m : ℕ) → found ≡ fault m i → remains ≡ fault m i
  unfolding fault_after steps_from
  fault-here h m e = let g : n - i ≡ suc (n - suc i) = omega arith in rw (g, before-length s i, by-list ∙ e)

  pub fault-later : i < n → found ≡ sound → remains ≡ fault_after t (before s (i + 1)) (steps_from s (i + 1) (n - (i + 1)))
  unfolding fault_after steps_from
  fault-later h e = let g : n - i ≡ suc (n - suc i) = omega arith in rw (g, before-length s i, by-list ∙ e, add-one)

  pub fault-none : n ≤ i → remains ≡ sound
  unfolding fault_after steps_from
  fault-none h = let g : n - i ≡ 0 = omega arith in rw g

  pub known-after : (next : ℕ) → (step_at s (24 * i)).target < 14 → next ≡ bit_or set (2 ^ ((step_at s (24 * i)).target % 16)) → Known t (before s (i + 1)) next
  known-after next h e =
      let m : (step_at s (24 * i)).target % 16 ≡ (step_at s (24 * i)).target = mod-eq_of_lt (omega arith) in
      rw (e, m, add-one i) (known_next t (before s i) set (step_at s (24 * i)) known)

-- a fault is not none
pub not_sound : {P : Type 0} (n i : ℕ) → fault n i ≡ sound → P
not_sound n i e = never (cc)
