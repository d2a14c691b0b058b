-- The promises of specs/Promises.antt.
-- Assumes nothing.
use Rattle.steps.specs.Promises.{ValueReads, TargetAlone, SoundExactly, MarksAbove, AllRowsFilled, LargerAllows, FilledAlone, WorkedFaults}
use Rattle.steps.proofs.Alike as alike
use Rattle.steps.proofs.Drawn.{value-reads, taken-other}
use Rattle.steps.proofs.FirstFaults as first
use Rattle.steps.proofs.Worked as worked

pub value_reads : ValueReads
value_reads = value-reads

pub target_alone : TargetAlone
target_alone = taken-other

pub sound_exactly : SoundExactly
sound_exactly = first.sound_exactly

pub marks_above : MarksAbove
marks_above = first.marks_above

pub all_rows_filled : AllRowsFilled
all_rows_filled = first.all_rows_filled

pub larger_allows : LargerAllows
larger_allows = first.larger_allows

pub worked_faults : WorkedFaults
worked_faults = worked.worked_faults

pub filled_alone : FilledAlone
filled_alone = alike.filled_alone
