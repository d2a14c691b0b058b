-- The promise of specs/Promises.antt.
-- Assumes nothing.
use Rattle.insn.proofs.Promises.{answers_apart}
use Rattle.immediates.specs.Promises.{ExpansionsApart}

pub expansions_apart : ExpansionsApart
expansions_apart = answers_apart
