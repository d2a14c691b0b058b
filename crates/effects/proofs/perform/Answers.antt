use borrow.Author.Rules.{rules}
use Rattle.effects.proofs.Held.{operation-sized}
use Rattle.effects.proofs.Effects.{word-stored, quad-stored, quad-marked}
use Rattle.effects.specs.File.{Good}
use Rattle.effects.proofs.perform.Goals as goal

pub returns-then-r-clause-file : goal.returns-then-r-clause-file
returns-then-r-clause-file c =
    let a = c.args in
    let g : Good a.before.file = record { size = search rules; small = search rules } in
    quad-stored a.op a.before.file a.r _ c.value.ensures _ c.value-then-r.ensures c.if-r.true (operation-sized a.op _ c.well_formed.1.0) g

pub returns-then-r-clause-mark : goal.returns-then-r-clause-mark
returns-then-r-clause-mark c =
    let a = c.args in
    let g : Good a.before.file = record { size = search rules; small = search rules } in
    quad-marked a.op a.r a.before.file a.before.mark c.mark_after.ensures c.mark_after-then-r.ensures c.if-r.true g

pub returns-else-r-clause-file : goal.returns-else-r-clause-file
returns-else-r-clause-file c =
    word-stored c.args.op c.args.before.file c.args.r _ c.value.ensures c.if-r.false
