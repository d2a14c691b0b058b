-- What each case of the answers stands for, in the papers' numbers.
-- Assumes nothing.
use Rattle.std.specs.Prelude.{Result, Ok, Err}
use Rattle.laws.specs.Answer.{Answer, accepted, refused}
use Rattle.insn.specs.declared.Refusal.{Refusal}
use Rattle.insn.specs.Refusals.{number}
use Rattle.tables.specs.declared.lengths.Lengths.{Lengths}
use Rattle.meanings.specs.declared.Numbers.{Numbers}
use Rattle.meanings.specs.declared.Action.{Action}
use Rattle.meanings.specs.declared.Action.TheVariants.{Does, Doubles}
use Rattle.meanings.specs.Meaning.{Act, act, double, Trio, trio}

abbrev pub gathered_answer : Result (Lengths × Numbers) Refusal → Answer Trio
gathered_answer (Ok (l, r)) = accepted (trio l r)
gathered_answer (Err f) = refused (number f)

-- the act that an action is
abbrev pub act_of : Action → Act
act_of (Does op r) = act op r
act_of (Doubles op w r) = double op w r

abbrev pub meaning_answer : Result Action Refusal → Answer Act
meaning_answer (Ok x) = accepted (act_of x)
meaning_answer (Err f) = refused (number f)
