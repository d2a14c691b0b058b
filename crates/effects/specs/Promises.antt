-- Promises beyond the contracts; proofs/Promises.antt proves each under its name.
-- Assumes nothing.
use Rattle.std.specs.Prelude.{true, false, ◌≡◌, ℕ, ◌+◌, ◌*◌, ◌≤◌}
use Rattle.insn.specs.declared.Width.{Width}
use Rattle.insn.specs.Widths.{bits_of}
use Rattle.double_lanes.specs.declared.DoubleOp.{DoubleOp}
use Rattle.double_lanes.specs.Double.{lengths_of}
use Rattle.operations.specs.declared.Operation.{Operation}
use Rattle.operations.specs.Operations.{Sized}
use Rattle.meanings.specs.declared.Numbers.{Numbers}
use Rattle.meanings.specs.Meaning.{act, double, registers}
use Rattle.effects.specs.File.{File, Good}
use Rattle.effects.specs.Halves.{write_halves, half_after}
use Rattle.effects.specs.Effect.{effect}

-- on quadwords an operation is that on their low doublewords and that on their high ones
abbrev pub QuadHalves : Type 0
QuadHalves =
    (op : Operation) (t a b : ℕ) (file : File) → Sized op → Good file
    → effect (act op (registers true (2 * t) (2 * a) (2 * b))) file
    ≡ effect (act op (registers false (2 * t + 1) (2 * a + 1) (2 * b + 1))) (effect (act op (registers false (2 * t) (2 * a) (2 * b))) file)

-- on registers of unlike length it is that on their low halves and that on their high ones, all read before either is written
abbrev pub UnlikeHalves : Type 0
UnlikeHalves =
    (op : DoubleOp) (w : Width) (r : Numbers) (file : File) → bits_of w ≤ 32 → Good file
    → effect (double op w r) file ≡ write_halves (lengths_of op).d file r.d (half_after op w r file 0) (half_after op w r file 1)
