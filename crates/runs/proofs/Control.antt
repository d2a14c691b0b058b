-- A pair is accepted or refused by its halfwords alone, so a run goes alike whatever the registers hold.
-- Assumes nothing.
use mathlib.Core.Path.{◌≡◌, refl, ap}
use mathlib.Core.Bool.{Bool, true, false, not}
use mathlib.Core.List.{List, [], ◌∷◌}
use Prim.Native.Nat.{ℕ, zero, suc, ◌+◌, ◌*◌, ◌/◌, ◌%◌}
use lib.Dec.{eqb, ltb}
use lib.ListN.{length, drop}
use Rattle.laws.specs.Answer.{Answer, accepted, refused}
use Rattle.laws.specs.Choice.{choose}
use Rattle.insn.specs.declared.Insn.{Insn}
use Rattle.decode.specs.Reading.{reading}
use Rattle.meanings.specs.Meaning.{Act, meaning_of}
use Rattle.machine.specs.State.{State, acted}
use Rattle.machine.specs.Step.{step_by, step_read}
use Rattle.runs.specs.Promises.{SameControl}
use Rattle.runs.specs.Run.{stopped, Run, at_once, onward, run_by, run_pairs, run_of}

-- the same ending after the same number of pairs
abbrev Alike : Run → Run → Type 0
Alike p q = (p.ending ≡ q.ending) × (p.executed ≡ q.executed)

-- one pair, and what comes after it
module _ (s t : State) (rest : State → Run) (h : (p q : State) → Alike (rest p) (rest q)) where
  by-meaning : (m : Answer Act) → Alike (onward (step_by m s) s rest) (onward (step_by m t) t rest)
  unfolding step_by
  by-meaning (accepted x) = let a = h (acted x s) (acted x t) in (a.0, ap (λ (n : ℕ). 1 + n) a.1)
  by-meaning (refused n) = (refl, refl)

  by-reading : (i : Answer Insn) → Alike (onward (step_read i s) s rest) (onward (step_read i t) t rest)
  unfolding step_read
  by-reading (accepted i) = by-meaning (meaning_of i)
  by-reading (refused n) = (refl, refl)

pairs-alike : (code : List ℕ) (budget : ℕ) (s t : State) → Alike (run_pairs code budget s) (run_pairs code budget t)
unfolding run_by
pairs-alike [] budget s t = (refl, refl)
pairs-alike (hw1 ∷ []) budget s t = (refl, refl)
pairs-alike (hw1 ∷ hw2 ∷ code) zero s t = (refl, refl)
pairs-alike (hw1 ∷ hw2 ∷ code) (suc budget) s t =
    by-reading s t (λ next. run_pairs code budget next) (λ p q. pairs-alike code budget p q) (reading hw1 hw2 0)

pub same-control : SameControl
unfolding run_of
same-control code start budget s t e =
    rw e (go (not (eqb (length code % 2) 0)) (not (eqb (length t.file) 32)) (ltb (length code / 2) start))
  where
    rest : State → Run
    rest u = run_pairs (drop (2 * start) code) budget u

    tested : Bool → Bool → Bool → State → Run
    tested a b c u = choose a (at_once (stopped 11) u) (choose b (at_once (stopped 11) u) (choose c (at_once (stopped 11) u) (rest u)))

    go : (a b c : Bool) → Alike (tested a b c s) (tested a b c t)
    go true b c = (refl, refl)
    go false true c = (refl, refl)
    go false false true = (refl, refl)
    go false false false = pairs-alike (drop (2 * start) code) budget s t
