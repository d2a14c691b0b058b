-- Half of what an operation does: the code goes by halves of registers, 64 bits of a quadword and 32 of a doubleword.
-- For the contract of `half`, and for the promise that halves are the whole; no meaning rests on it.
-- Assumes nothing.
use Rattle.std.specs.Prelude.{ℕ, ◌/◌}
use Rattle.insn.specs.declared.Width.{Width}
use Rattle.insn.specs.Widths.{bits_of}
use Rattle.double_lanes.specs.declared.DoubleOp.{DoubleOp}
use Rattle.lanes.specs.Promises.{lane_at}
use Rattle.double_lanes.specs.Double.{lengths_of, lane_bits, double_lane, double_lanes}

-- the operation at lane i of each operand
abbrev pub nth_lane : DoubleOp → ℕ → ℕ → ℕ → ℕ → ℕ → ℕ
nth_lane op w i d n m =
    let q = lengths_of op in
    double_lane op w (lane_at (lane_bits q.d w) i d) (lane_at (lane_bits q.n w) i n) (lane_at (lane_bits q.m w) i m)

unfoldable pub half_of : DoubleOp → Width → ℕ → ℕ → ℕ → ℕ
half_of op w d n m = double_lanes op (bits_of w) (32 / bits_of w) d n m
