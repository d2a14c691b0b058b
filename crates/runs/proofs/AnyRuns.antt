-- Runs over any state and any step: what a turn of the loop does to them, and what they have to do with steps.
-- Assumes nothing.
use mathlib.Core.Path.{◌≡◌, refl, sym, ◌∙◌, ap}
use mathlib.Core.Bool.{true}
use mathlib.Core.List.{List, [], ◌∷◌, ◌++◌}
use Prim.Native.Nat.{ℕ, zero, suc, ◌+◌, ◌-◌, ◌*◌, ◌≤◌, ◌<◌}
use native.Mathlib.Nat.{not-suc-le-zero, zero-add, suc-add, add-zero}
use native.Mathlib.Omega.{arith}
use lib.ListN.{length, get_or, drop}
use borrow.Author.Tests.{eqb-true}
use Rattle.laws.specs.Answer.{Answer, accepted, refused, and_then}
use Rattle.laws.proofs.Never.{never}
use Rattle.runs.specs.Run.{Ending, done, stopped, may_go_on, RunOn, at_once, after, onward, run_by, steps_by}

-- the two halfwords of a pair
both : (pair : List ℕ) → length pair ≡ 2 → pair ≡ get_or pair 0 0 ∷ get_or pair 1 0 ∷ []
both [] h = absurd (let z : ⊥ = omega arith in z)
both (hw1 ∷ []) h = absurd (let z : ⊥ = omega arith in z)
both (hw1 ∷ hw2 ∷ []) h = refl
both (hw1 ∷ hw2 ∷ x ∷ more) h = absurd (let z : ⊥ = omega arith in z)

one-add : (n : ℕ) → 1 + n ≡ suc n
one-add n = omega arith

module _ {S : Type 0} where
  -- no pair before, and some pairs after others
  pub after_none : (r : RunOn S) → after 0 r ≡ r
  after_none r = rw (zero-add r.executed)

  pub after-after : (j k : ℕ) (r : RunOn S) → after j (after k r) ≡ after (j + k) r
  after-after j k r = let e : j + (k + r.executed) ≡ j + k + r.executed = omega arith in rw e

  -- a run that ends where the loop does, after the pairs executed
  pub halts : {q whole : RunOn S} (n : ℕ) (e : Ending) (s : S) → q ≡ at_once e s → after n q ≡ whole → (record { ending = e; executed = n; state = s }) ≡ whole
  halts n e s f g = ap (λ (k : ℕ). record { ending = e; executed = k; state = s }) (sym (add-zero n)) ∙ ap (after n) (sym f) ∙ g

module _ {S : Type 0} (step : ℕ → ℕ → S → Answer S) where
  -- no pair is left
  pub ended : (code : List ℕ) (left : ℕ) (state : S) → length code < 2 → run_by step code left state ≡ at_once done state
  unfolding run_by
  ended [] left state h = refl
  ended (hw1 ∷ []) left state h = refl
  ended (hw1 ∷ hw2 ∷ code) left state h = absurd (let z : ⊥ = omega arith in z)

  -- a turn of the loop: the budget is spent, the pair is refused, or it is executed
  module _ (code pair rest : List ℕ) (state : S) (left : ℕ) (front : code ≡ pair ++ rest) (two : length pair ≡ 2) where
    in-front : code ≡ get_or pair 0 0 ∷ get_or pair 1 0 ∷ rest
    in-front = front ∙ ap (λ (p : List ℕ). p ++ rest) (both pair two)

    pub spent : left ≡ 0 → run_by step code left state ≡ at_once (stopped 15) state
    unfolding run_by
    spent e = rw (in-front, e)

    next-pair : (left ≡ 0 → ⊥) → run_by step code left state ≡ onward (step (get_or pair 0 0) (get_or pair 1 0) state) state (λ next. run_by step rest (left - 1) next)
    unfolding run_by
    next-pair n =
        let b : left ≡ suc (left - 1) = omega arith in
        ap (λ (l : List ℕ). run_by step l left state) in-front ∙ ap (λ (k : ℕ). run_by step (get_or pair 0 0 ∷ get_or pair 1 0 ∷ rest) k state) b

    pub stops : (n : ℕ) → (left ≡ 0 → ⊥) → step (get_or pair 0 0) (get_or pair 1 0) state ≡ refused n → run_by step code left state ≡ at_once (stopped n) state
    stops n z e = next-pair z ∙ rw e

    pub executes : (next : S) → (left ≡ 0 → ⊥) → step (get_or pair 0 0) (get_or pair 1 0) state ≡ accepted next
        → run_by step code left state ≡ after 1 (run_by step rest (left - 1) next)
    executes next z e = next-pair z ∙ rw e

    -- after the pairs executed before
    pub turned : (budget rest-left : ℕ) (next : S) → (left ≡ 0 → ⊥) → left ≤ budget → rest-left ≡ left - 1
        → step (get_or pair 0 0) (get_or pair 1 0) state ≡ accepted next
        → after (budget - rest-left) (run_by step rest rest-left next) ≡ after (budget - left) (run_by step code left state)
    turned budget rest-left next z w b e =
        let k : budget - rest-left ≡ budget - left + 1 = omega arith in
        rw (k, b) (sym (after-after (budget - left) 1 (run_by step rest (left - 1) next)) ∙ ap (after (budget - left)) (sym (executes next z e)))

  -- the pairs executed are the steps between the two states
  abbrev pub Counted : List ℕ → S → RunOn S → Type 0
  Counted code state r = steps_by step r.executed code state ≡ accepted r.state

  -- one step before others
  more-steps : (hw1 hw2 : ℕ) (code : List ℕ) (state next : S) (n : ℕ) → step hw1 hw2 state ≡ accepted next
      → steps_by step (1 + n) (hw1 ∷ hw2 ∷ code) state ≡ steps_by step n code next
  unfolding steps_by
  more-steps hw1 hw2 code state next n e = ap (λ (k : ℕ). steps_by step k (hw1 ∷ hw2 ∷ code) state) (one-add n) ∙ rw e

  pub counted : (code : List ℕ) (budget : ℕ) (state : S) → Counted code state (run_by step code budget state)
  unfolding run_by steps_by
  counted [] budget state = refl
  counted (hw1 ∷ []) budget state = refl
  counted (hw1 ∷ hw2 ∷ code) zero state = refl
  counted (hw1 ∷ hw2 ∷ code) (suc budget) state = turn (step hw1 hw2 state) refl (counted code budget)
    where
      turn : (x : Answer S) → step hw1 hw2 state ≡ x → ((next : S) → Counted code next (run_by step code budget next))
          → Counted (hw1 ∷ hw2 ∷ code) state (onward x state (λ next. run_by step code budget next))
      turn (accepted next) e h = more-steps hw1 hw2 code state next (run_by step code budget next).executed e ∙ h next
      turn (refused n) e h = refl

  -- a run of n pairs, all of which have a step, with budget enough
  pub all-run : (code : List ℕ) (n budget : ℕ) (state next : S) → length code ≡ 2 * n → steps_by step n code state ≡ accepted next → n ≤ budget
      → run_by step code budget state ≡ (record { ending = done; executed = n; state = next })
  unfolding run_by steps_by
  all-run [] zero budget state next l e h = let k : state ≡ next = cc in ap (at_once done) k
  all-run [] (suc n) budget state next l e h = absurd (let z : ⊥ = omega arith in z)
  all-run (hw1 ∷ []) n budget state next l e h = absurd (let z : ⊥ = omega arith in z)
  all-run (hw1 ∷ hw2 ∷ code) zero budget state next l e h = absurd (let z : ⊥ = omega arith in z)
  all-run (hw1 ∷ hw2 ∷ code) (suc n) zero state next l e h = absurd (not-suc-le-zero h)
  all-run (hw1 ∷ hw2 ∷ code) (suc n) (suc budget) state next l e h =
      turn (step hw1 hw2 state) e (λ mid. all-run code n budget mid next (omega arith))
    where
      turn : (x : Answer S) → and_then x (λ mid. steps_by step n code mid) ≡ accepted next
          → ((mid : S) → steps_by step n code mid ≡ accepted next → n ≤ budget → run_by step code budget mid ≡ (record { ending = done; executed = n; state = next }))
          → onward x state (λ mid. run_by step code budget mid) ≡ (record { ending = done; executed = suc n; state = next })
      turn (accepted mid) f k = ap (after 1) (k mid f (omega arith)) ∙ rw (one-add n)
      turn (refused j) f k = never (cc)

  -- it executes no more pairs than there are, and what each step keeps it keeps
  abbrev Bounded : (S → Type 0) → List ℕ → RunOn S → Type 0
  Bounded P code r = P r.state × (2 * r.executed ≤ length code)

  pub bounded : (P : S → Type 0) → ((hw1 hw2 : ℕ) (s next : S) → step hw1 hw2 s ≡ accepted next → P s → P next)
      → (code : List ℕ) (budget : ℕ) (s : S) → P s → Bounded P code (run_by step code budget s)
  unfolding run_by
  bounded P keeps [] budget s p = (p, omega arith)
  bounded P keeps (hw1 ∷ []) budget s p = (p, omega arith)
  bounded P keeps (hw1 ∷ hw2 ∷ code) zero s p = (p, omega arith)
  bounded P keeps (hw1 ∷ hw2 ∷ code) (suc budget) s p = turn (step hw1 hw2 s) refl (λ next h. bounded P keeps code budget next h)
    where
      turn : (x : Answer S) → step hw1 hw2 s ≡ x → ((next : S) → P next → Bounded P code (run_by step code budget next))
          → Bounded P (hw1 ∷ hw2 ∷ code) (onward x s (λ next. run_by step code budget next))
      turn (accepted next) e h = let k = h next (keeps hw1 hw2 s next e p) in (k.0, let n = k.1 in omega arith)
      turn (refused n) e h = (p, omega arith)

  -- a run that was done, or that a spent budget stopped, goes on with more
  abbrev Goes : List ℕ → ℕ → RunOn S → RunOn S → Type 0
  Goes code c r whole = may_go_on r.ending ≡ true → whole ≡ after r.executed (run_by step (drop (2 * r.executed) code) c r.state)

  pub goes_on : (code : List ℕ) (b c : ℕ) (state : S) → Goes code c (run_by step code b state) (run_by step code (b + c) state)
  unfolding run_by
  goes_on [] b c state e = refl
  goes_on (hw1 ∷ []) b c state e = refl
  goes_on (hw1 ∷ hw2 ∷ code) zero c state e =
      ap (λ (k : ℕ). run_by step (hw1 ∷ hw2 ∷ code) k state) (zero-add c) ∙ sym (after_none (run_by step (hw1 ∷ hw2 ∷ code) c state))
  goes_on (hw1 ∷ hw2 ∷ code) (suc b) c state e =
      ap (λ (k : ℕ). run_by step (hw1 ∷ hw2 ∷ code) k state) (suc-add b c) ∙ turn (step hw1 hw2 state) refl (goes_on code b c) e
    where
      same : (n k : ℕ) → step hw1 hw2 state ≡ refused n → n ≡ 15 → at_once (stopped n) state ≡ run_by step (hw1 ∷ hw2 ∷ code) k state
      same n zero x e = rw e
      same n (suc k) x e = rw x

      turn : (x : Answer S) → step hw1 hw2 state ≡ x → ((next : S) → Goes code c (run_by step code b next) (run_by step code (b + c) next))
          → Goes (hw1 ∷ hw2 ∷ code) c (onward x state (λ next. run_by step code b next)) (onward x state (λ next. run_by step code (b + c) next))
      turn (accepted next) e h s =
          let r = run_by step code b next in
          let d : 2 * (1 + r.executed) ≡ suc (suc (2 * r.executed)) = omega arith in
          ap (after 1) (h next s) ∙ after-after 1 r.executed (run_by step (drop (2 * r.executed) code) c r.state)
          ∙ ap (λ (k : ℕ). after (1 + r.executed) (run_by step (drop k (hw1 ∷ hw2 ∷ code)) c r.state)) (sym d)
      turn (refused n) e h s = same n c e (eqb-true n 15 s) ∙ sym (after_none (run_by step (hw1 ∷ hw2 ∷ code) c state))
