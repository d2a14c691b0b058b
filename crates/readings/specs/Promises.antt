-- Promises beyond the contracts; proofs/Promises.antt proves each under its name.
-- Assumes nothing.
use Rattle.insn.specs.declared.Insn.{Insn}
use Rattle.insn.specs.Promises.{AnswersApart}

-- an answer says which case it is
abbrev pub ReadingsApart : Type 0
ReadingsApart = AnswersApart Insn
