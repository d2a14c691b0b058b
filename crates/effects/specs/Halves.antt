-- Halves of registers, by which the code does an operation on registers of unlike length.
-- For the contracts of the crate's own functions, and for the promise UnlikeHalves; no meaning rests on them.
-- Assumes nothing.
use Rattle.std.specs.Prelude.{Bool, ℕ, ◌+◌, ◌*◌, ◌/◌, ◌%◌, ◌^◌}
use Rattle.laws.specs.Choice.{choose}
use Rattle.insn.specs.declared.Width.{Width}
use Rattle.double_lanes.specs.declared.DoubleOp.{DoubleOp}
use Rattle.double_lanes.specs.Double.{lengths_of}
use Rattle.double_lanes.specs.Halves.{half_of}
use Rattle.meanings.specs.declared.Numbers.{Numbers}
use Rattle.effects.specs.File.{File, read_d, write_d}

-- half h of a register, 0 the low and 1 the high one: a doubleword of a quadword, 32 bits of a doubleword
abbrev pub read_half : Bool → File → ℕ → ℕ → ℕ
read_half quad file k h = choose quad (read_d file (k + h)) (read_d file k / 2 ^ (32 * h) % 2 ^ 32)

abbrev pub write_halves : Bool → File → ℕ → ℕ → ℕ → File
write_halves quad file k low high = choose quad (write_d (write_d file k low) (k + 1) high) (write_d file k (low + 2 ^ 32 * high))

-- what an operation leaves in half h of its target
abbrev pub half_after : DoubleOp → Width → Numbers → File → ℕ → ℕ
half_after op w r file h =
    let l = lengths_of op in
    half_of op w (read_half l.d file r.d h) (read_half l.n file r.n h) (read_half l.m file r.m h)
