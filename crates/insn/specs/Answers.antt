-- What a call's Result stands for, in the papers' words and numbers.
-- Assumes nothing.
use Rattle.std.specs.Prelude.{Result, Ok, Err}
use Rattle.laws.specs.Answer.{Answer, accepted, refused}
use Rattle.insn.specs.declared.Refusal.{Refusal}
use Rattle.insn.specs.Refusals.{number}

abbrev pub answer : {A : Type 0} → Result A Refusal → Answer A
answer (Ok a) = accepted a
answer (Err f) = refused (number f)
