use Prim.Native.Nat.{◌*◌}
use Rattle.recipes.specs.Pairs.{pairs_of, halfwords_of}
use Rattle.steps.specs.Steps.{steps_from}
use Rattle.text.specs.Writes.{Writes}
use Rattle.emit.proofs.put_sheet.Given as goal

abbrev pub invariant-loop-i : goal.invariant-loop-i
invariant-loop-i l = Writes (40 * l.i) l.initial.page (halfwords_of (pairs_of (steps_from l.sheet 0 l.i))) l.page
