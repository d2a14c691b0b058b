use borrow.Author.Rules.{rules}
use Rattle.amounts.proofs.Shifts.{code_lt}
use Rattle.read_immediates.specs.Shift.{column_of}
use Rattle.read_immediates.proofs.shift.column.Goals as goal

pub returns-in_default : goal.returns-in_default
unfolding column_of
returns-in_default c = record { value = search rules; upper_bound = rw c.shift_code.ensures (code_lt _ _) }
