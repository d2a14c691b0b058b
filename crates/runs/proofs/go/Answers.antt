use mathlib.Core.Path.{sym, ◌∙◌}
use Prim.Native.Nat.{◌-◌}
use native.Mathlib.Omega.{arith}
use Rattle.insn.specs.Refusals.{number}
use Rattle.runs.specs.Run.{done, stopped}
use Rattle.machine.specs.State.{state}
use Rattle.machine.specs.Step.{step_pair}
use Rattle.runs.proofs.AnyRuns.{halts, ended, spent, stops, turned}
use Rattle.runs.proofs.go.Goals as goal

pub returns-then-left-eq0 : goal.returns-then-left-eq0
returns-then-left-eq0 c =
    let l = c.loop-pair in
    let n = c.in-Some.ensures.steps.1 in
    halts (c.args.budget - l.left) (stopped 15) (state l.state.file l.state.mark)
    (spent step_pair l.pair-iterator.rest.now c.in-Some.pair.now _ _ l.left n.0 (n.1 ∙ l.invariant.pairs) (omega arith)) l.invariant.whole

pub returns-in-Err : goal.returns-in-Err
returns-in-Err c =
    let l = c.loop-pair in
    let n = c.in-Some.ensures.steps.1 in
    let s = state l.state.file l.state.mark in
    halts (c.args.budget - l.left) (stopped (number c.in-Err.f)) s
    (stops step_pair l.pair-iterator.rest.now c.in-Some.pair.now _ s l.left n.0 (n.1 ∙ l.invariant.pairs) _ (omega arith) (sym c.in-Err.ensures))
    l.invariant.whole

pub loop-pair-preserved : goal.loop-pair-preserved
loop-pair-preserved c =
    let l = c.loop-pair in
    let n = c.in-Some.ensures.steps in
    record {
      pairs = n.0 ∙ l.invariant.pairs;
      within = omega arith;
      whole =
          turned step_pair l.pair-iterator.rest.now c.in-Some.pair.now c.next.new.self.rest.now (state l.state.file l.state.mark) l.left
          n.1.0 (n.1.1 ∙ l.invariant.pairs) c.args.budget _ (state c.in-Ok.next.file c.in-Ok.next.mark) (omega arith) (omega arith) (omega arith) (sym c.in-Ok.ensures)
          ∙ l.invariant.whole;
    }

pub returns : goal.returns
returns c =
    let l = c.loop-pair in
    let pairs = l.invariant.pairs in
    let short = c.in-None.ensures.steps.1.0 in
    halts (c.args.budget - l.left) done (state l.state.file l.state.mark) (ended step_pair l.pair-iterator.rest.now l.left _ (omega arith)) l.invariant.whole
