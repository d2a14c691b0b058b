-- What an act does to the register file, and whether it moves a lane to an end of its range.
-- Assumes nothing.
use Rattle.std.specs.Prelude.{Bool, false, ℕ}
use Rattle.double_lanes.specs.Double.{double_of}
use Rattle.effects.specs.File.{File, register_bits, read_r, write_r}
use Rattle.marks.specs.Moved.{moved_by}
use Rattle.meanings.specs.Meaning.{Act, act, double, lengths_in, numbers_in}
use Rattle.operations.specs.Operations.{result_of}

-- what an act makes of whole registers: the old target, and the sources
abbrev pub result_in : Act → ℕ → ℕ → ℕ → ℕ
result_in (act op r) d n m = result_of (register_bits r.quad) op d n m
result_in (double op w r) d n m = double_of op w d n m

-- the file after an act on whole registers, each with its own length: all are read before the target is written
unfoldable pub effect : Act → File → File
effect x file =
    let l = lengths_in x in
    let r = numbers_in x in
    write_r l.d file r.d (result_in x (read_r l.d file r.d) (read_r l.n file r.n) (read_r l.m file r.m))

-- whether an act moves a lane to an end of its range; on registers of unlike length none does
abbrev pub moves : Act → File → Bool
moves (act op r) file = moved_by (register_bits r.quad) op (read_r r.quad file r.n) (read_r r.quad file r.m)
moves (double op w r) file = false
