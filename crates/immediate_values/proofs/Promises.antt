-- The promises of specs/Promises.antt.
-- Assumes nothing.
use mathlib.Core.Path.{◌≡◌}
use native.Mathlib.Omega.{arith}
use Rattle.floats.proofs.Promises.{float_once}
use Rattle.immediate_values.specs.Promises.{ImmediateOnce, FloatImmediateOnce}
use Rattle.immediate_values.proofs.Immediates.{imm8, number-once, float_read}

pub immediate_once : ImmediateOnce
immediate_once = number-once

pub float_immediate_once : FloatImmediateOnce
float_immediate_once name x t u f ht hu et eu =
    let p = float_read name x t ht et in
    let q = float_read name x u hu eu in
    let same : imm8 t ≡ imm8 u = float_once x (imm8 t) (imm8 u) (omega arith) (omega arith) f p.1 q.1 in
    omega arith
