use Rattle.fields.specs.Registers.{vec_of}
use Rattle.std.proofs.Common.{rules}
use Rattle.readings.proofs.register.Goals as goal

pub returns-in-true-eq0 : goal.returns-in-true-eq0
unfolding vec_of
returns-in-true-eq0 c = search rules

pub returns-in-true-default : goal.returns-in-true-default
unfolding vec_of
returns-in-true-default c = search rules

pub returns-in-false-default : goal.returns-in-false-default
unfolding vec_of
returns-in-false-default c = search rules
