-- The mark after machine steps, by the pairs that moved a lane.
-- Assumes nothing.
use mathlib.Core.Path.{◌≡◌, refl, sym, ap, subst, ◌∙◌}
use mathlib.Core.Bool.{Bool, true, false}
use mathlib.Core.List.{List, [], ◌∷◌}
use Prim.Native.Nat.{ℕ, zero, suc, ◌+◌, ◌*◌, ◌<◌}
use native.Mathlib.Nat.{not-suc-le-zero}
use native.Mathlib.Omega.{arith}
use lib.ListN.{get_or}
use Rattle.laws.specs.Answer.{Answer, accepted, refused, and_then}
use Rattle.laws.proofs.Never.{never, wrong}
use Rattle.machine.specs.State.{State}
use Rattle.machine.specs.Step.{step_pair}
use Rattle.machine.specs.Promises.{PairMoves}
use Rattle.machine.proofs.Promises.{mark_turns, mark_stays}
use Rattle.runs.specs.Run.{steps_by, machine_steps}
use Rattle.runs.specs.Promises.{SomeMoves}

-- a first step and the others
module _ (n : ℕ) (hw1 hw2 : ℕ) (code : List ℕ) (s next : State) where
  record First : Type 0 where
    mid : State
    step : step_pair hw1 hw2 s ≡ accepted mid
    rest : machine_steps n code mid ≡ accepted next

  first : machine_steps (suc n) (hw1 ∷ hw2 ∷ code) s ≡ accepted next → First
  unfolding steps_by
  first e = go (step_pair hw1 hw2 s) refl e
    where
      go : (a : Answer State) → step_pair hw1 hw2 s ≡ a → and_then a (λ mid. machine_steps n code mid) ≡ accepted next → First
      go (accepted mid) e f = record { mid = mid; step = e; rest = f }
      go (refused k) e f = never (cc)

-- no step turns the mark back
pub stays : (n : ℕ) (code : List ℕ) (s next : State) → machine_steps n code s ≡ accepted next → s.mark ≡ true → next.mark ≡ true
unfolding steps_by
stays zero code s next e m = let k : s ≡ next = cc in subst (λ (t : State). t.mark ≡ true) k m
stays (suc n) [] s next e m = never (cc)
stays (suc n) (hw1 ∷ []) s next e m = never (cc)
stays (suc n) (hw1 ∷ hw2 ∷ code) s next e m =
    let f = first n hw1 hw2 code s next e in stays n code f.mid next f.rest (mark_stays hw1 hw2 s f.mid f.step m)

-- a pair after the first two halfwords
place : (i : ℕ) → (2 * suc i ≡ suc (suc (2 * i))) × (suc (suc (2 * i)) + 1 ≡ suc (suc (2 * i + 1)))
place i = (omega arith, omega arith)

-- a mark that was turned was turned by a pair that moves a lane
pub turned : (n : ℕ) (code : List ℕ) (s next : State) → machine_steps n code s ≡ accepted next → s.mark ≡ false → next.mark ≡ true → SomeMoves n code s
unfolding steps_by
turned zero code s next e unmarked marked = let k : s ≡ next = cc in wrong (sym unmarked ∙ ap (λ (t : State). t.mark) k ∙ marked)
turned (suc n) [] s next e unmarked marked = never (cc)
turned (suc n) (hw1 ∷ []) s next e unmarked marked = never (cc)
turned (suc n) (hw1 ∷ hw2 ∷ code) s next e unmarked marked =
    let f = first n hw1 hw2 code s next e in by f f.mid.mark refl (λ m. turned n code f.mid next f.rest m marked)
  where
    by : (f : First n hw1 hw2 code s next) (t : Bool) → f.mid.mark ≡ t → (f.mid.mark ≡ false → SomeMoves n code f.mid) → SomeMoves (suc n) (hw1 ∷ hw2 ∷ code) s
    by f true m rest = record { at = 0; among = omega arith; reached = s; steps = refl; moves = (mark_turns hw1 hw2 s f.mid f.step unmarked).0 m }
    by f false m rest =
        let r = rest m in
        let l = r.among in
        record {
          at = suc r.at;
          among = omega arith;
          reached = r.reached;
          steps = rw f.step r.steps;
          moves = rw ((place r.at).0, (place r.at).1) r.moves;
        }

-- and a pair that moves a lane turns it
pub turns : (n : ℕ) (code : List ℕ) (s next : State) → machine_steps n code s ≡ accepted next → s.mark ≡ false
    → (i : ℕ) → i < n → (reached : State) → machine_steps i code s ≡ accepted reached → PairMoves (get_or code (2 * i) 0) (get_or code (2 * i + 1) 0) reached.file
    → next.mark ≡ true
unfolding steps_by
turns zero code s next e unmarked i h reached r p = absurd (not-suc-le-zero h)
turns (suc n) [] s next e unmarked i h reached r p = never (cc)
turns (suc n) (hw1 ∷ []) s next e unmarked i h reached r p = never (cc)
turns (suc n) (hw1 ∷ hw2 ∷ code) s next e unmarked zero h reached r p =
    let f = first n hw1 hw2 code s next e in
    let k : reached ≡ s = cc in
    stays n code f.mid next f.rest ((mark_turns hw1 hw2 s f.mid f.step unmarked).1 (subst (λ (t : State). PairMoves hw1 hw2 t.file) k p))
turns (suc n) (hw1 ∷ hw2 ∷ code) s next e unmarked (suc i) h reached r p =
    let f = first n hw1 hw2 code s next e in
    let g = first i hw1 hw2 code s reached r in
    let same : g.mid ≡ f.mid = cc (sym g.step ∙ f.step) in
    let there : machine_steps i code f.mid ≡ accepted reached = ap (machine_steps i code) (sym same) ∙ g.rest in
    by f f.mid.mark refl (λ m. turns n code f.mid next f.rest m i (omega arith) reached there (rw ((place i).0, (place i).1) at p))
  where
    by : (f : First n hw1 hw2 code s next) (t : Bool) → f.mid.mark ≡ t → (f.mid.mark ≡ false → next.mark ≡ true) → next.mark ≡ true
    by f true m rest = stays n code f.mid next f.rest m
    by f false m rest = rest m
