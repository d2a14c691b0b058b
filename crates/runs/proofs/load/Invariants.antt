use mathlib.Core.Path.{◌≡◌}
use lib.ListN.{length, take}
use Rattle.runs.proofs.load.Given as goal

abbrev pub invariant-loop-k : goal.invariant-loop-k
invariant-loop-k l = (length l.file ≡ 32) × (take l.k l.file ≡ take l.k l.lent)
