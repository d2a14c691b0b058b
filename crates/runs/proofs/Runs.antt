-- The machine's runs.
-- Assumes nothing.
use mathlib.Core.Path.{◌≡◌, refl, sym, ◌∙◌, ap, subst}
use mathlib.Core.Bool.{Bool, true, false}
use mathlib.Core.List.{List}
use Prim.Native.Nat.{ℕ, ◌+◌, ◌*◌, ◌/◌, ◌%◌, ◌≤◌, ◌<◌}
use borrow.Author.Tests.{eqb-true, eqb-false, ltb-true, ltb-false, eq-eqb, ne_eqb, lt-ltb, le-ltb}
use native.Mathlib.Omega.{arith}
use lib.Dec.{eqb, ltb}
use lib.ListN.{length, drop, length-drop}
use lib.Seq.{drop-drop}
use Rattle.laws.specs.Answer.{Answer, accepted, refused}
use Rattle.laws.proofs.Never.{never, wrong}
use Rattle.insn.specs.declared.Insn.{Insn}
use Rattle.decode.specs.Reading.{reading}
use Rattle.meanings.specs.Meaning.{Act, meaning_of}
use Rattle.machine.specs.State.{State, acted}
use Rattle.machine.specs.Step.{step_by, step_read, step_pair}
use Rattle.runs.specs.Run.{done, stopped, may_go_on, Run, at_once, after, steps_by, run_pairs, run_of, machine_steps}
use Rattle.effects.proofs.Effects.{effect-size}
use Rattle.runs.proofs.AnyRuns as any
use Rattle.runs.proofs.AnyRuns.{Counted, counted, bounded, goes_on}

-- the cases of a run
module _ (code : List ℕ) (start : ℕ) (s : State) (budget : ℕ) where
  pub odd_code : (length code % 2 ≡ 0 → ⊥) → run_of code start s budget ≡ at_once (stopped 11) s
  unfolding run_of
  odd_code n = rw (ne_eqb (length code % 2) 0 n)

  pub other-file : length code % 2 ≡ 0 → (length s.file ≡ 32 → ⊥) → run_of code start s budget ≡ at_once (stopped 11) s
  unfolding run_of
  other-file e n = rw (eq-eqb (length code % 2) 0 e, ne_eqb (length s.file) 32 n)

  pub past_end : length code % 2 ≡ 0 → length s.file ≡ 32 → length code / 2 < start → run_of code start s budget ≡ at_once (stopped 11) s
  unfolding run_of
  past_end e f h = rw (eq-eqb (length code % 2) 0 e, eq-eqb (length s.file) 32 f, lt-ltb (length code / 2) start h)

  pub runs : length code % 2 ≡ 0 → length s.file ≡ 32 → start ≤ length code / 2 → run_of code start s budget ≡ run_pairs (drop (2 * start) code) budget s
  unfolding run_of
  runs e f h = rw (eq-eqb (length code % 2) 0 e, eq-eqb (length s.file) 32 f, le-ltb (length code / 2) start h)

-- from the start of the code
pub runs-from-start : (code : List ℕ) (s : State) (budget : ℕ) → length code % 2 ≡ 0 → length s.file ≡ 32 → run_of code 0 s budget ≡ run_pairs code budget s
runs-from-start code s budget e f = runs code 0 s budget e f (omega arith)

-- a run of n pairs, all of which have a machine step, with budget enough
pub all-run : (code : List ℕ) (n budget : ℕ) (s next : State) → length code ≡ 2 * n → machine_steps n code s ≡ accepted next → n ≤ budget
    → run_pairs code budget s ≡ (record { ending = done; executed = n; state = next })
all-run = any.all-run step_pair

-- a step keeps the file's size
step-size : (hw1 hw2 : ℕ) (s next : State) → step_pair hw1 hw2 s ≡ accepted next → length next.file ≡ length s.file
unfolding step_read step_by acted
step-size hw1 hw2 s next e = read (reading hw1 hw2 0) e
  where
    sized : (a : Answer Act) → step_by a s ≡ accepted next → length next.file ≡ length s.file
    sized (accepted x) f =
        let k : acted x s ≡ next = cc in
        subst (λ (t : State). length t.file ≡ length s.file) k (effect-size x s.file)
    sized (refused n) f = never (cc)

    read : (a : Answer Insn) → step_read a s ≡ accepted next → length next.file ≡ length s.file
    read (accepted i) f = sized (meaning_of i) f
    read (refused n) f = never (cc)

-- what holds of a run at once refused and of a run of pairs holds of every run
pub each-run : (code : List ℕ) (start budget : ℕ) (s : State) (P : Run → Type 0) → P (at_once (stopped 11) s)
    → (length code % 2 ≡ 0 → length s.file ≡ 32 → start ≤ length code / 2 → P (run_pairs (drop (2 * start) code) budget s)) → P (run_of code start s budget)
each-run code start budget s P bad good = go (eqb (length code % 2) 0) refl (eqb (length s.file) 32) refl (ltb (length code / 2) start) refl
  where
    go : (x : Bool) → eqb (length code % 2) 0 ≡ x → (y : Bool) → eqb (length s.file) 32 ≡ y → (z : Bool) → ltb (length code / 2) start ≡ z
        → P (run_of code start s budget)
    go false e y f z g = subst P (sym (odd_code code start s budget (eqb-false (length code % 2) 0 e))) bad
    go true e false f z g = subst P (sym (other-file code start s budget (eqb-true (length code % 2) 0 e) (eqb-false (length s.file) 32 f))) bad
    go true e true f true g =
        subst P (sym (past_end code start s budget (eqb-true (length code % 2) 0 e) (eqb-true (length s.file) 32 f) (ltb-true (length code / 2) start g))) bad
    go true e true f false g =
        let even = eqb-true (length code % 2) 0 e in
        let size = eqb-true (length s.file) 32 f in
        let within = ltb-false (length code / 2) start g in
        subst P (sym (runs code start s budget even size within)) (good even size within)

pub run-kept : (code : List ℕ) (start budget : ℕ) (s : State) → Counted step_pair (drop (2 * start) code) s (run_of code start s budget)
unfolding steps_by
run-kept code start budget s = each-run code start budget s (Counted step_pair (drop (2 * start) code) s) refl (λ e f h. counted step_pair (drop (2 * start) code) budget s)

pub run-goes-on : (code : List ℕ) (start b c : ℕ) (s : State)
    → let r = run_of code start s b in may_go_on r.ending ≡ true
    → run_of code start s (b + c) ≡ after r.executed (run_of code (start + r.executed) r.state c)
run-goes-on code start b c s =
    each-run code start b s (λ (r : Run). may_go_on r.ending ≡ true → run_of code start s (b + c) ≡ after r.executed (run_of code (start + r.executed) r.state c))
    wrong
    (λ e f h on. let rest = drop (2 * start) code in
    let r = run_pairs rest b s in
    let k = bounded step_pair (λ (t : State). length t.file ≡ length s.file) (λ hw1 hw2 t next e h. step-size hw1 hw2 t next e ∙ h) rest b s refl in
    let n = k.1 in
    let d = length-drop (2 * start) code in
    let i : 2 * start + 2 * r.executed ≡ 2 * (start + r.executed) = omega arith in
    runs code start s (b + c) e f h ∙ goes_on step_pair rest b c s on
    ∙ ap (λ (l : List ℕ). after r.executed (run_pairs l c r.state)) (drop-drop (2 * r.executed) (2 * start) code ∙ ap (λ (k : ℕ). drop k code) i)
    ∙ ap (after r.executed) (sym (runs code (start + r.executed) r.state c e (k.0 ∙ f) (omega arith))))
