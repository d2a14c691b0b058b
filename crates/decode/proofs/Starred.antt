-- The starred pairs read as their table says: antt computes each.
-- Assumes nothing.
use mathlib.Core.Path.{refl}
use lib.Ieee.{odd}
use Rattle.laws.specs.Signed.{twos_complement}
use Rattle.fields.specs.Registers.{vec_of}
use Rattle.floats.specs.Floats.{float_of}
use Rattle.immediates.specs.Modified.{constant_at, element, operand_in, needs_nonzero}
use Rattle.amounts.specs.Shifts.{is_escape, right_end, left_start, size_code}
use Rattle.names.specs.Names.{names, number_of, pairwise}
use Rattle.register_tables.specs.Same3.{same3}
use Rattle.immediate_tables.specs.Shift.{shift_rows, shift_cells, shift_classes, vmovl}
use Rattle.immediate_tables.specs.Modimm.{modimm}
use Rattle.register_tables.specs.Diff.{diff_rows, diff_cells, diff_shapes, diff_marks}
use Rattle.readings.specs.Operands.{two, three}
use Rattle.read_registers.specs.Same3.{same3_of, same3_reading}
use Rattle.read_registers.specs.Diff.{diff_of, diff_reading}
use Rattle.read_immediates.specs.Shift.{forbidden, column_of, shifted, shift_of, shift_reading, is_long_by_zero}
use Rattle.read_immediates.specs.Modimm.{modimm_of, modimm_reading}
use Rattle.decode.specs.Reading.{family_of, in_family, reading}
use Rattle.decode.specs.Starred.{starred, expected, StarredRead}

pub starred_read : StarredRead
unfolding starred expected reading in_family family_of same3_of same3_reading diff_of diff_reading forbidden column_of is_long_by_zero shifted shift_of shift_reading modimm_of modimm_reading two three same3 shift_rows shift_cells shift_classes vmovl modimm diff_rows diff_cells diff_shapes diff_marks names number_of pairwise vec_of is_escape size_code right_end left_start constant_at element operand_in needs_nonzero twos_complement float_of odd
starred_read address = refl
