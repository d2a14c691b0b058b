-- The cases of a translation.
-- Assumes nothing.
use mathlib.Core.Path.{◌≡◌, refl, sym, ◌∙◌, ap}
use mathlib.Core.Bool.{Bool, true, false, not}
use mathlib.Core.List.{List, ◌++◌}
use mathlib.Core.Logic.{◌≢◌, ◌⊎◌, inl, inr}
use Prim.Native.Nat.{ℕ, ◌*◌, ◌%◌, ◌≤◌, ◌<◌}
use native.Mathlib.Omega.{arith}
use lib.Dec.{eqb, ltb}
use lib.ListN.{length, take, drop}
use lib.Seq.{take_at}
use borrow.Author.Tests.{eq-eqb, ne_eqb, lt-ltb, le-ltb, eqb-true, ltb-false}
use Rattle.laws.specs.AnswerAt.{AnswerAt, accepted, refused, refused_at}
use Rattle.laws.specs.Choice.{choose}
use Rattle.laws.specs.Placed.{Placed}
use Rattle.laws.proofs.Never.{never}
use Rattle.laws.proofs.Placed.{whole}
use Rattle.steps.specs.declared.Terms.{Terms}
use Rattle.steps.specs.Faults.{Fault, sound, fault, first_fault, unless_fault}
use Rattle.steps.specs.Steps.{steps_of}
use Rattle.steps.specs.declared.faults.SheetError.{SheetError}
use Rattle.steps.specs.Answers.{refused_for}
use Rattle.steps.proofs.Answers.{not_accepted}
use Rattle.steps.proofs.FirstFaults.{sound_exactly}
use Rattle.recipes.specs.Pairs.{halfwords_of}
use Rattle.translator.specs.Translation.{records_of, translation_by, translation_of, written_by, written_of, Translates}
use Rattle.recipes.proofs.ByKind.{sheet-written}
use Rattle.recipes.proofs.Writes.{written-length}

-- a refusal is so whatever the answer to no fault is
refusal_stays : (x : Fault) (n : ℕ) (b : AnswerAt ℕ) (e : SheetError) → refused_for e ≡ unless_fault x (accepted n) → refused_for e ≡ unless_fault x b
refusal_stays sound n b e r = not_accepted n e (sym r)
refusal_stays (fault m i) n b e r = r

module _ (t : Terms) (s : List ℕ) (room : ℕ) where
  abbrev first : Fault
  first = first_fault t (steps_of s)

  -- no whole steps, or too many
  pub length-refused : (length s % 24 ≡ 0 → ⊥) ⊎ ((length s % 24 ≡ 0) × (6144 < length s)) → refused 12 ≡ translation_of t s room
  unfolding translation_by
  length-refused (inl n) = rw (ne_eqb (length s % 24) 0 n) refl
  length-refused (inr h) = rw (eq-eqb (length s % 24) 0 h.0, lt-ltb 6144 (length s) h.1) refl

  module _ (w : length s % 24 ≡ 0) (h : length s ≤ 6144) where
    -- a refusal of the measure is the translation's
    pub breaks : (e : SheetError) → refused_for e ≡ unless_fault first (accepted (length (records_of s))) → refused_for e ≡ translation_of t s room
    unfolding translation_by
    breaks e r = rw (eq-eqb (length s % 24) 0 w, le-ltb 6144 (length s) h) (refusal_stays first _ _ e r)

    pub short : first ≡ sound → room < 2 * length (records_of s) → translation_of t s room ≡ refused 14
    unfolding translation_by
    short f r = rw (eq-eqb (length s % 24) 0 w, le-ltb 6144 (length s) h, f, lt-ltb room (2 * length (records_of s)) r) refl

    pub all : first ≡ sound → 2 * length (records_of s) ≤ room → translation_of t s room ≡ accepted (length (records_of s))
    unfolding translation_by
    all f r = rw (eq-eqb (length s % 24) 0 w, le-ltb 6144 (length s) h, f, le-ltb room (2 * length (records_of s)) r) refl

-- a refusal is no pair count
pub not-refused : {P : Type 0} (n r : ℕ) → refused r ≡ accepted n → P
not-refused n r e = never (cc)

pub not-refused-at : {P : Type 0} (n r i : ℕ) → refused_at r i ≡ accepted n → P
not-refused-at n r i e = never (cc)

module _ (t : Terms) (s : List ℕ) (room n : ℕ) where
  abbrev count : ℕ
  count = length (records_of s)

  abbrev answer : AnswerAt ℕ
  answer = choose (ltb room (2 * count)) (refused 14) (accepted count)

  -- translated only if
  pub translates : translation_of t s room ≡ accepted n → Translates t s room n
  unfolding translation_by
  translates = by1 (eqb (length s % 24) 0) refl
    where
      by4 : (b : Bool) → ltb room (2 * count) ≡ b → length s % 24 ≡ 0 → length s ≤ 6144 → first_fault t (steps_of s) ≡ sound
          → choose b (refused 14) (accepted count) ≡ accepted n → Translates t s room n
      by4 true e w f k g = not-refused n 14 g
      by4 false e w f k g =
          let p : n ≡ count = cc in
          let q = ltb-false room (2 * count) e in
          let a = (sound_exactly t (steps_of s)).0 k in
          record { whole = w; few = f; keep = a.0; filled = a.1; count = p; long = omega arith }

      by3 : (x : Fault) → first_fault t (steps_of s) ≡ x → length s % 24 ≡ 0 → length s ≤ 6144 → unless_fault x answer ≡ accepted n → Translates t s room n
      by3 sound e w f g = by4 (ltb room (2 * count)) refl w f e g
      by3 (fault m i) e w f g = not-refused-at n m i g

      by2 : (b : Bool) → ltb 6144 (length s) ≡ b → length s % 24 ≡ 0
          → choose b (refused 12) (unless_fault (first_fault t (steps_of s)) answer) ≡ accepted n → Translates t s room n
      by2 true e w g = not-refused n 12 g
      by2 false e w g = by3 (first_fault t (steps_of s)) refl w (ltb-false 6144 (length s) e) g

      by1 : (b : Bool) → eqb (length s % 24) 0 ≡ b
          → choose (not b) (refused 12) (choose (ltb 6144 (length s)) (refused 12) (unless_fault (first_fault t (steps_of s)) answer)) ≡ accepted n
          → Translates t s room n
      by1 true e g = by2 (ltb 6144 (length s)) refl (eqb-true (length s % 24) 0 e) g
      by1 false e g = not-refused n 12 g

  -- and if
  pub translated : Translates t s room n → translation_of t s room ≡ accepted n
  translated a =
      all t s room a.whole a.few ((sound_exactly t (steps_of s)).1 (a.keep, a.filled)) (rw (← a.count) a.long) ∙ ap accepted (sym a.count)

-- the output after each case
module _ (t : Terms) (s out : List ℕ) where
  pub kept-unless : ((n : ℕ) → translation_of t s (length out) ≢ accepted n) → written_of t s out ≡ out
  unfolding written_by
  kept-unless other = go (translation_of t s (length out)) refl
    where
      go : (a : AnswerAt ℕ) → translation_of t s (length out) ≡ a → written_of t s out ≡ out
      go (accepted n) e = absurd (other n e)
      go (refused r) e = rw e
      go (refused_at r i) e = rw e

  pub kept : (e : SheetError) → refused_for e ≡ translation_of t s (length out) → out ≡ written_of t s out
  kept e a = sym (kept-unless (λ n b. not_accepted n e (sym (a ∙ b))))

  module _ (n : ℕ) (a : Translates t s (length out) n) where
    -- two halfwords a pair
    pub code-size : length (halfwords_of (records_of s)) ≡ 2 * n
    code-size = written-length (records_of s) (sheet-written (steps_of s) a.keep) ∙ ap (λ (m : ℕ). 2 * m) (sym a.count)

    pub front : written_of t s out ≡ halfwords_of (records_of s) ++ drop (2 * n) out
    unfolding written_by
    front = rw (translated t s (length out) n a, code-size)

    pub code-there : take (2 * n) (written_of t s out) ≡ halfwords_of (records_of s)
    code-there = rw front (take_at (halfwords_of (records_of s)) (drop (2 * n) out) (2 * n) code-size)

    -- what was placed is what is written
    pub filled : {b r : ℕ} {new : List ℕ} → Placed b out 0 (halfwords_of (records_of s)) new r → new ≡ written_of t s out
    filled p =
        let l = code-size in
        whole (omega (arith, a.long)) p ∙ rw l (sym front)

-- what a measure says of the pairs
pub told-count : (x : Fault) (count n : ℕ) → accepted n ≡ unless_fault x (accepted count) → (x ≡ sound) × (n ≡ count)
told-count sound count n e = (refl, cc)
told-count (fault m j) count n e = not-refused-at n m j (sym e)
