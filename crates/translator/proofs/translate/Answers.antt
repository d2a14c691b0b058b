use mathlib.Core.Path.{sym, ◌∙◌, ap}
use native.Mathlib.Omega.{arith}
use lib.ListN.{length}
use Rattle.std.specs.Prelude.{None}
use Rattle.std.proofs.lemmas.Result.{err_from_is_err_and}
use Rattle.laws.specs.AnswerAt.{accepted}
use Rattle.insn.specs.declared.Refusal.TheVariants.{SheetLength, ShortOutput}
use Rattle.steps.specs.Faults.{terms, first_fault}
use Rattle.steps.specs.Steps.{steps_of}
use Rattle.steps.proofs.FirstFaults.{sound_exactly}
use Rattle.translator.specs.Translation.{records_of}
use Rattle.translator.proofs.Translations.{length-refused, breaks, short, all, translates, kept, filled, told-count}
use Rattle.translator.proofs.translate.Goals as goal

pub returns-then-sheet-ne0 : goal.returns-then-sheet-ne0
returns-then-sheet-ne0 c =
    let a = c.args in
    let t = terms a.filled in
    let e = length-refused t a.sheet.now (length a.out.now) c.then-sheet-ne0.either in
    record { answer = e; written = kept t a.sheet.now a.out.now (record { cause = SheetLength; step = None }) e }

pub returns-in_err-pairs : goal.returns-in_err-pairs
returns-in_err-pairs c =
    let a = c.args in
    let t = terms a.filled in
    let s = a.sheet.now in
    let p = err_from_is_err_and c.from_residual.result c.from_residual.ensures.1 in
    let e = breaks t s (length a.out.now) (omega arith) (omega arith) _ c.in_err-pairs.ensures in
    record { answer = rw (p.1, p.2) e; written = kept t s a.out.now _ e }

pub returns-then-out-pairs : goal.returns-then-out-pairs
returns-then-out-pairs c =
    let a = c.args in
    let t = terms a.filled in
    let s = a.sheet.now in
    let m = told-count _ (length (records_of s)) _ c.in_ok-pairs.ensures in
    let e = sym (short t s (length a.out.now) (omega arith) (omega arith) m.0 (omega (arith, m.1, c.if-out-pairs.true))) in
    record { answer = e; written = kept t s a.out.now (record { cause = ShortOutput; step = None }) e }

pub put_steps-requires : goal.put_steps-requires
put_steps-requires c =
    let s = c.args.sheet.now in
    let t = terms c.args.filled in
    let m = told-count (first_fault t (steps_of s)) (length (records_of s)) _ c.in_ok-pairs.ensures in
    (omega arith, ((sound_exactly t (steps_of s)).0 m.0).0)

pub returns : goal.returns
returns c =
    let a = c.args in
    let t = terms a.filled in
    let s = a.sheet.now in
    let m = told-count _ (length (records_of s)) _ c.in_ok-pairs.ensures in
    let e = all t s (length a.out.now) (omega arith) (omega arith) m.0 (omega (arith, m.1, c.if-out-pairs.false)) in
    record { answer = ap accepted m.1 ∙ sym e; written = filled t s a.out.now (length (records_of s)) (translates t s (length a.out.now) _ e) c.put_steps.ensures }
