-- The promises of specs/Promises.antt.
-- Assumes nothing.
use Rattle.operations.specs.Promises.{ByHalves}
use Rattle.operations.proofs.Halves.{quad, result-halves}

pub by_halves : ByHalves
by_halves op d d' n n' m m' s a a' b b' c c' = (result-halves op s (quad a a') (quad b b') (quad c c')).whole
