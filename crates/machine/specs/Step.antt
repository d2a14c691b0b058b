-- One machine step: the state after a record and after a pair.
-- Assumes nothing.
use Rattle.std.specs.Prelude.{ℕ}
use Rattle.laws.specs.Answer.{Answer, accepted, refused}
use Rattle.insn.specs.declared.Insn.{Insn}
use Rattle.decode.specs.Reading.{reading}
use Rattle.meanings.specs.Meaning.{Act, meaning_of}
use Rattle.machine.specs.State.{State, acted}

unfoldable pub step_by : Answer Act → State → Answer State
step_by (accepted x) s = accepted (acted x s)
step_by (refused n) s = refused n

-- the step that a record is
abbrev pub step_insn : Insn → State → Answer State
step_insn i s = step_by (meaning_of i) s

unfoldable pub step_read : Answer Insn → State → Answer State
step_read (accepted i) s = step_insn i s
step_read (refused n) s = refused n

-- the step that a pair is: edition C's refusal in reading, else the record's step; the address does not matter
abbrev pub step_pair : ℕ → ℕ → State → Answer State
step_pair hw1 hw2 s = step_read (reading hw1 hw2 0) s
