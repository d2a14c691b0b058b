-- The machine's state: the register file, and the mark, which is the manual's cumulative saturation bit, FPSCR.QC.
-- From ARM DDI 0406C, A8.8, VQADD and VQSUB; and document 02, F-8.
-- Assumes nothing.
use Rattle.std.specs.Prelude.{Bool}
use Rattle.laws.specs.Choice.{either}
use Rattle.effects.specs.File.{File}
use Rattle.effects.specs.Effect.{effect, moves}
use Rattle.meanings.specs.Meaning.{Act}

pub record State : Type 0 where
  pub file : File
  pub mark : Bool

abbrev pub state : File → Bool → State
state file mark = record { file = file; mark = mark }

-- the state after an act: its effect on the file; and the mark as it was, or yes where the act moved a lane to an end
unfoldable pub acted : Act → State → State
acted x s = state (effect x s.file) (either s.mark (moves x s.file))
