use mathlib.Core.Path.{◌≡◌, refl, sym, ap, subst, ◌∙◌}
use mathlib.Core.List.{List}
use Prim.Native.Nat.{ℕ, ◌-◌, ◌*◌}
use native.Mathlib.Omega.{arith}
use lib.ListN.{length, take, drop, length-drop}
use lib.Seq.{take_all}
use Rattle.laws.specs.Answer.{accepted}
use Rattle.runs.specs.Answers.{ran_of}
use Rattle.runs.specs.Run.{Run, run_pairs, steps_by, machine_steps}
use Rattle.effects.specs.File.{File}
use Rattle.machine.specs.State.{state}
use Rattle.machine.specs.Step.{step_pair}
use Rattle.runs.proofs.AnyRuns.{counted}
use Rattle.runs.proofs.Runs.{odd_code, other-file, past_end, runs}
use Rattle.runs.proofs.run.Goals as goal
use Rattle.runs.proofs.run.Goals.{then-code-ne0-via-then-code-ne0, then-code-ne0-via-else-code-ne0+then-file-ne32, then-code-ne0-via-else-code-ne0+else-file-ne32+then-code-start}

pub returns-then-code-ne0-clause-answer : goal.returns-then-code-ne0-clause-answer
returns-then-code-ne0-clause-answer c =
    let a = c.args in
    let s = state a.file.now a.mark.now in
    elim c.then-code-ne0.branch [
      | then-code-ne0-via-then-code-ne0 w ↦ sym (odd_code a.code.now a.start s a.budget w.if-code-ne0.true)
      | then-code-ne0-via-else-code-ne0+then-file-ne32 w ↦ sym (other-file a.code.now a.start s a.budget (omega arith) w.if-file-ne32.true)
      | then-code-ne0-via-else-code-ne0+else-file-ne32+then-code-start w ↦ sym (past_end a.code.now a.start s a.budget (omega arith) (omega arith) (omega arith))
    ]

pub returns-then-code-ne0-clause-counted : goal.returns-then-code-ne0-clause-counted
unfolding steps_by
returns-then-code-ne0-clause-counted c =
    refl

pub returns : goal.returns
returns c =
    let a = c.args in
    let rest = drop (2 * a.start) a.code.now in
    let lent = state a.file.now a.mark.now in
    let size = length-drop (2 * a.start) a.code.now in
    let whole : take (length a.code.now - 2 * a.start) rest ≡ rest = take_all _ rest (omega arith) in
    let e : ran_of (record { outcome = c.go-outcome.result.0; executed = c.go-outcome.result.1 }) (state c.store.new.lent c.go-outcome.result.2.mark) ≡ run_pairs rest a.budget lent =
    rw c.store.ensures
    (c.go-outcome.ensures ∙ ap (λ (l : List ℕ). run_pairs l a.budget (state c.load.result a.mark.now)) whole
    ∙ ap (λ (f : File). run_pairs rest a.budget (state f a.mark.now)) c.load.ensures) in
    record {
      answer = e ∙ sym (runs a.code.now a.start lent a.budget (omega arith) (omega arith) (omega arith));
      counted = subst (λ (r : Run). machine_steps r.executed rest lent ≡ accepted r.state) (sym e) (counted step_pair rest a.budget lent);
    }
