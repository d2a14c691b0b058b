use Prim.Native.Nat.{◌/◌}
use lib.ListN.{length}
use Rattle.steps.specs.Faults.{terms}
use Rattle.unfilled.proofs.Finding.{Reached}
use Rattle.unfilled.proofs.unfilled_row.Given as goal

abbrev pub invariant-loop-i : goal.invariant-loop-i
invariant-loop-i l = Reached (terms l.filled) l.sheet (length l.sheet / 24) l.i l.known
