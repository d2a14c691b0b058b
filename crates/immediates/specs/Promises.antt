-- Promises beyond the contracts; proofs/Promises.antt proves each under its name.
-- Assumes nothing.
use Rattle.std.specs.Prelude.{ℕ}
use Rattle.insn.specs.Promises.{AnswersApart}

-- an answer says which case it is
abbrev pub ExpansionsApart : Type 0
ExpansionsApart = AnswersApart ℕ
