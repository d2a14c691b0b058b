-- The promises of specs/Promises.antt.
-- Assumes nothing.
use mathlib.Core.Path.{◌≡◌, refl, ap}
use Prim.Native.Nat.{◌*◌}
use lib.ListN.{drop}
use Rattle.laws.proofs.Never.{never}
use Rattle.insn.proofs.Promises.{numbered_apart}
use Rattle.std.specs.Prelude.{⊤, Result, Ok, Err}
use Rattle.insn.specs.declared.Refusal.{Refusal}
use Rattle.runs.specs.Answers.{ending_of}
use Rattle.runs.specs.Run.{Run, run_of}
use Rattle.runs.specs.Promises.{RunsApart, RunKept, RunMarked, SameControl, GoesOn}
use Rattle.runs.proofs.Control.{same-control}
use Rattle.runs.proofs.Marks.{stays, turned, turns}
use Rattle.runs.proofs.Runs.{run-kept, run-goes-on}

-- an ending says which outcome it is
endings-apart : (x y : Result ⊤ Refusal) → ending_of x ≡ ending_of y → x ≡ y
endings-apart (Ok a) (Ok b) e = refl
endings-apart (Ok a) (Err y) e = never (cc)
endings-apart (Err x) (Ok a) e = never (cc)
endings-apart (Err x) (Err y) e = ap Err (numbered_apart x y (cc))

pub runs_apart : RunsApart
runs_apart x y s t e =
    let o = endings-apart x.outcome y.outcome (ap (λ (r : Run). r.ending) e) in
    let n = ap (λ (r : Run). r.executed) e in
    ((λ i. record { outcome = o i; executed = n i }), ap (λ (r : Run). r.state) e)

pub run_kept : RunKept
run_kept = run-kept

pub run_marked : RunMarked
run_marked code start budget s =
    let r = run_of code start s budget in
    let rest = drop (2 * start) code in
    let k = run-kept code start budget s in (
      (λ m. ((λ marked. turned r.executed rest s r.state k m marked), λ p. turns r.executed rest s r.state k m p.at p.among p.reached p.steps p.moves)),
      λ m. stays r.executed rest s r.state k m,
    )

pub same_control : SameControl
same_control = same-control

pub goes_on : GoesOn
goes_on = run-goes-on
