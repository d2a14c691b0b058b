use mathlib.Core.Path.{sym, ◌∙◌, ap}
use mathlib.Core.Bool.{Bool}
use Rattle.steps.proofs.Filling.{breaks-rule, by_reads, keeps-rule}
use Rattle.steps.proofs.faults.step_fault.Goals as goal

pub returns-in_default-clause-fault : goal.returns-in_default-clause-fault
returns-in_default-clause-fault c = λ i. sym (breaks-rule _ i _ c.in_default.ensures)

pub returns-then-not-reads_within-clause-fault : goal.returns-then-not-reads_within-clause-fault
returns-then-not-reads_within-clause-fault c =
    let s = c.in-Some.s in
    λ i. rw (← c.in-Some.ensures) (sym (keeps-rule _ i _ s.kept ∙ ap (λ (x : Bool). by_reads x i) (sym c.reads_within.ensures ∙ c.if-not-reads_within.true)))

pub returns-clause-fault : goal.returns-clause-fault
returns-clause-fault c =
    let s = c.in-Some.s in
    λ i. rw (← c.in-Some.ensures) (sym (keeps-rule _ i _ s.kept ∙ ap (λ (x : Bool). by_reads x i) (sym c.reads_within.ensures ∙ c.if-not-reads_within.false)))
