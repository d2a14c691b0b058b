use Rattle.std.proofs.Common.{ℕ, ◌*◌, ◌^◌, ◌<◌}
use Rattle.lanes.specs.Promises.{lane_at}
use Rattle.lanes.proofs.gather.Given as goal

-- the lanes below i are done, and nothing stands above them
abbrev pub invariant-loop-i : goal.invariant-loop-i
invariant-loop-i g l = (l.out < 2 ^ (l.w.count * l.i)) × ((j : ℕ) → j < l.i → goal.F-post g l.of j (lane_at l.w.count j l.out))
