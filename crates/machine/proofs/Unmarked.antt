-- What an operation that moves no lane does to a state.
-- Assumes nothing.
use mathlib.Core.Path.{◌≡◌, ap, ◌∙◌}
use Rattle.laws.specs.Choice.{either}
use Rattle.laws.proofs.Some.{either-none}
use Rattle.operations.specs.declared.Operation.{Operation}
use Rattle.marks.proofs.Quiet.{Quiet}
use Rattle.meanings.specs.declared.Registers.{Registers}
use Rattle.meanings.specs.Meaning.{act}
use Rattle.effects.specs.Effect.{effect}
use Rattle.machine.specs.State.{State, state, acted}

pub quietly : (op : Operation) (r : Registers) (s : State) → Quiet op → acted (act op r) s ≡ state (effect (act op r) s.file) s.mark
unfolding acted
quietly op r s quiet = ap (state (effect (act op r) s.file)) (ap (either s.mark) (quiet _ _ _) ∙ either-none s.mark)
