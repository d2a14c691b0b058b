use mathlib.Core.Path.{◌≡◌, ap, sym, ◌∙◌}
use native.Mathlib.Omega.{arith}
use Rattle.laws.specs.Answer.{accepted, refused}
use Rattle.insn.specs.Refusals.{number}
use Rattle.insn.specs.Answers.{answer}
use Rattle.decode.specs.Reading.{reading}
use Rattle.totals.proofs.Sorts.{accepted-sort, refused-sort}
use Rattle.text.proofs.Writes.{widen}
use Rattle.lines.specs.Listing.{reading_text}
use Rattle.lines.proofs.put_reading.Goals as goal

pub returns-in-Ok : goal.returns-in-Ok
unfolding reading_text
returns-in-Ok c =
    let a = c.args in
    let e : reading a.hw1 a.hw2 0 ≡ accepted c.in-Ok.i = sym c.read.ensures ∙ ap answer c.in-Ok.is in
    record { text = rw e c.put_insn.ensures; sort = accepted-sort _ _ c.family_of.ensures c.family_sort-if_accepted.ensures e }

pub returns-in-Err : goal.returns-in-Err
unfolding reading_text
returns-in-Err c =
    let a = c.args in
    let e : reading a.hw1 a.hw2 0 ≡ refused (number c.in-Err.f) = sym c.read.ensures ∙ ap answer c.in-Err.is in
    record { text = rw e (widen (omega arith) c.put_refusal.ensures); sort = refused-sort _ _ e }
