use mathlib.Core.Path.{sym}
use native.Mathlib.Omega.{arith}
use lib.Seq.{length-take-le}
use borrow.Author.Rules.{rules}
use Rattle.steps.specs.Faults.{terms}
use Rattle.sheet.proofs.Whole.{prefix}
use Rattle.capi.proofs.Evaluating.{after_run, after_refusal}
use Rattle.capi.proofs.bodlixo_evaluate.Goals as goal

pub overflow_mul-n : goal.overflow_mul-n
overflow_mul-n c =
    let a = c.args in
    let t = c.translate in
    omega (arith, prefix (terms a.filled) a.sheet.now a.out.now t.new.out _ (sym c.in-Ok.ensures.answer) t.auto.out)

pub slice_bounds-bodlixo_run-end : goal.slice_bounds-bodlixo_run-end
slice_bounds-bodlixo_run-end c =
    let a = c.args in
    let t = c.translate in
    prefix (terms a.filled) a.sheet.now a.out.now t.new.out _ (sym c.in-Ok.ensures.answer) t.auto.out

pub slice_bounds-bodlixo_run-end-in-Ok : goal.slice_bounds-bodlixo_run-end-in-Ok
slice_bounds-bodlixo_run-end-in-Ok c =
    let a = c.args in
    let t = c.translate in
    sym (length-take-le _ _ (prefix (terms a.filled) a.sheet.now a.out.now t.new.out _ (sym c.in-Ok.ensures.answer) t.auto.out))

pub returns-in-Ok : goal.returns-in-Ok
returns-in-Ok c =
    let a = c.args in
    let r = c.bodlixo_run.ensures in
    let h = after_run (terms a.filled) a.sheet.now a.out.now a.file.now a.mark.now a.budget (λ i. search rules) _ c.translate.ensures.out _ _ _ _ _ (sym c.in-Ok.ensures.answer) r.code r.executed r.file r.mark in
    record { code = h.code_told; executed = h.counted; at = c.translate.ensures.at; out = c.translate.ensures.out; file = h.file_left; mark = h.mark_kept; demand3 = h.demanded }

pub returns-in-Err : goal.returns-in-Err
returns-in-Err c =
    let a = c.args in
    let h = after_refusal (terms a.filled) a.sheet.now a.out.now a.file.now a.mark.now a.budget (λ i. omega (arith, c.type_inv.file i)) _ c.translate.ensures.out _ c.in-Err.e.step _ _ (sym c.in-Err.ensures.answer) c.code_of.ensures (search rules) in
    record { code = h.code_told; executed = h.counted; at = c.translate.ensures.at; out = c.translate.ensures.out; file = h.file_left; mark = h.mark_kept; demand3 = h.demanded }
