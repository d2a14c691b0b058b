use mir.Facts.{to_z-of_z}
use native.Mathlib.Omega.{arith}
use Rattle.names.specs.Names.{name_of}
use Rattle.laws.proofs.Promises.{number_back}
use Rattle.immediate_values.proofs.Immediates.{number-place}
use Rattle.immediate_values.proofs.FirstCell.number_immediate.Goals as goal

pub returns-then-reads : goal.returns-then-reads
returns-then-reads c =
    let p = rw (to_z-of_z c.ranges.v) at c.pattern_of.ensures in
    let one = rw (p, number_back 64 c.args.v (omega arith) c.ranges.v.sfits) at c.candidate-t.ensures.1 in
    let read = rw (to_z-of_z c.ranges.v) at c.reads.ensures in
    rw (← read, c.if-reads.true) at (number-place (name_of c.args.self.mnemonic) _ c.candidate-t.result c.candidate-t.ensures.0 one)

pub returns : goal.returns
returns c =
    let p = rw (to_z-of_z c.ranges.v) at c.pattern_of.ensures in
    let one = rw (p, number_back 64 c.args.v (omega arith) c.ranges.v.sfits) at c.candidate-t.ensures.1 in
    let read = rw (to_z-of_z c.ranges.v) at c.reads.ensures in
    rw (← read, c.if-reads.false) at (number-place (name_of c.args.self.mnemonic) _ c.candidate-t.result c.candidate-t.ensures.0 one)
