use Prim.Native.Nat.{◌<◌}
use native.Mathlib.Omega.{arith}
use Rattle.immediates.specs.Modified.{constant_at, element, pattern_in}
use Rattle.immediates.proofs.Expansions.{no-op, no_last, either}
use Rattle.immediates.proofs.expand_imm.Goals as goal

pub returns-in-1-0-to-13 : goal.returns-in-1-0-to-13
returns-in-1-0-to-13 c =
    let below : c.args.cmode < 14 = omega arith in rw (c.in-1-0-to-13.is-0, ← either _ below) c.expand_plain-in-1-0-to-13.ensures

pub returns-in-1-eq14 : goal.returns-in-1-eq14
unfolding constant_at element pattern_in
returns-in-1-eq14 c = rw (c.in-1-eq14.is-0, c.in-1-eq14.is-1, c.bytes_of.ensures)

pub returns-in_default : goal.returns-in_default
unfolding pattern_in
returns-in_default c = rw (c.in_default.is-0, no_last c.args.cmode (omega arith))

pub returns-in_default-2 : goal.returns-in_default-2
unfolding pattern_in
returns-in_default-2 c = rw (no-op c.args.op c.args.cmode (omega arith))
