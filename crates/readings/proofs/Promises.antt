-- The promise of specs/Promises.antt.
-- Assumes nothing.
use Rattle.insn.proofs.Promises.{answers_apart}
use Rattle.readings.specs.Promises.{ReadingsApart}

pub readings_apart : ReadingsApart
readings_apart = answers_apart
