use mathlib.Core.Path.{◌≡◌}
use lib.ListN.{length, take}
use Rattle.runs.proofs.store.Given as goal

abbrev pub invariant-loop-k : goal.invariant-loop-k
invariant-loop-k l = (length l.lent ≡ 32) × (take l.k l.lent ≡ take l.k l.file)
