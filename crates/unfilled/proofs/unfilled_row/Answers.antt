use mathlib.Core.Path.{sym, ◌∙◌}
use Prim.Native.Nat.{◌/◌}
use lib.ListN.{length}
use Rattle.steps.specs.Faults.{terms}
use Rattle.unfilled.proofs.Finding.{reached-start, row-broken, row_here, row-later, row-none}
use Rattle.unfilled.proofs.unfilled_row.Goals as goal

pub loop-i-init : goal.loop-i-init
loop-i-init c = let a = c.args in reached-start (terms a.filled) a.sheet.now (length a.sheet.now / 24)

pub returns-in_default : goal.returns-in_default
returns-in_default c =
    let a = c.args in
    let loop = c.loop-i in
    let k = rw c.step_at.ensures at c.in_default.ensures in
    sym (row-broken (terms a.filled) a.sheet.now (length a.sheet.now / 24) loop.i loop.known loop.invariant c.loop-i-test.true k)

pub returns-in-Some-missing : goal.returns-in-Some-missing
returns-in-Some-missing c =
    let a = c.args in
    let loop = c.loop-i in
    let s = c.in-Some.s in
    let same = c.in-Some.ensures ∙ c.step_at.ensures in
    let f = sym c.in-Some-missing.ensures in
    sym (row_here (terms a.filled) a.sheet.now (length a.sheet.now / 24) loop.i loop.known loop.invariant c.loop-i-test.true (rw same at s.kept) _ (rw same at f))

pub loop-i-preserved : goal.loop-i-preserved
loop-i-preserved c =
    let a = c.args in
    let loop = c.loop-i in
    let s = c.in-Some.s in
    let same = c.in-Some.ensures ∙ c.step_at.ensures in
    let f = sym c.in_default-missing.ensures in
    let w = c.with_row-known.ensures in
    row-later (terms a.filled) a.sheet.now (length a.sheet.now / 24) loop.i loop.known loop.invariant c.loop-i-test.true (rw same at s.kept) (rw same at f) _ (rw same at w)

pub returns : goal.returns
returns c =
    let a = c.args in
    let loop = c.loop-i in
    sym (row-none (terms a.filled) a.sheet.now (length a.sheet.now / 24) loop.i loop.known loop.invariant c.loop-i-test.false)
