use native.Mathlib.Omega.{arith}
use lib.Seq.{length-take-le}
use borrow.Author.Rules.{rules}
use mathlib.Core.Path.{sym}
use Rattle.std.proofs.lemmas.Result.{err_from_is_err_and}
use Rattle.machine.specs.State.{state}
use Rattle.steps.specs.Faults.{terms}
use Rattle.sheet.proofs.Whole.{after_run, after-refusal, prefix}
use Rattle.sheet.proofs.evaluate.Goals as goal

pub overflow_mul-n : goal.overflow_mul-n
overflow_mul-n c =
    let a = c.args in
    let t = c.translate in
    omega (arith, prefix (terms a.filled) a.sheet.now a.out.now t.new.out _ (sym c.in_ok-n.ensures.answer) t.auto.out)

pub slice_bounds-run-end : goal.slice_bounds-run-end
slice_bounds-run-end c =
    let a = c.args in
    let t = c.translate in
    prefix (terms a.filled) a.sheet.now a.out.now t.new.out _ (sym c.in_ok-n.ensures.answer) t.auto.out

pub slice_bounds-run-end-2 : goal.slice_bounds-run-end-2
slice_bounds-run-end-2 c =
    let a = c.args in
    let t = c.translate in
    sym (length-take-le _ _ (prefix (terms a.filled) a.sheet.now a.out.now t.new.out _ (sym c.in_ok-n.ensures.answer) t.auto.out))

pub returns : goal.returns
returns c =
    let a = c.args in
    let h = after_run (terms a.filled) a.sheet.now a.out.now (state a.file.now a.mark.now) a.budget (λ i. search rules) _ c.in_ok-n.ensures.written _ _ (sym c.in_ok-n.ensures.answer) c.run.ensures.answer in
    record { answer = h.0; written = h.1.0; left = h.1.1.0; demand3 = h.1.1.1 }

pub returns-in_err-n : goal.returns-in_err-n
returns-in_err-n c =
    let a = c.args in
    let p = err_from_is_err_and c.from_residual.result c.from_residual.ensures.1 in
    let h = after-refusal (terms a.filled) a.sheet.now a.out.now (state a.file.now a.mark.now) a.budget (λ i. omega (arith, c.type_inv.file i)) _ c.in_err-n.ensures.written _ c.in_err-n.ensures.answer in
    rw (p.1, p.2) (record { answer = h.0; written = h.1.0; left = h.1.1.0; demand3 = h.1.1.1 })
