use mathlib.Core.Bool.{false}
use native.Mathlib.Omega.{arith}
use Rattle.laws.proofs.Range.{values}
use Rattle.homes.proofs.Homes.{homes, no-home}
use Rattle.homes.proofs.Places.{same3-at, shift-at, vmovl-at, modimm-at, diff-at, vmov-at}
use Rattle.homes.proofs.plain_home.Goals as goal

pub returns-then-m-ge-COUNT : goal.returns-then-m-ge-COUNT
returns-then-m-ge-COUNT c = no-home false _ c.if-m-ge-COUNT.true

pub returns-in-0-to-172 : goal.returns-in-0-to-172
unfolding values homes
returns-in-0-to-172 c = same3-at _ (omega arith)

pub returns-in-173-to-254 : goal.returns-in-173-to-254
unfolding values homes
returns-in-173-to-254 c = shift-at _ (omega arith) (omega arith)

pub returns-in-255-to-260 : goal.returns-in-255-to-260
unfolding values homes
returns-in-255-to-260 c = vmovl-at _ (omega arith) (omega arith)

pub returns-in-261-to-271 : goal.returns-in-261-to-271
unfolding values homes
returns-in-261-to-271 c = modimm-at _ (omega arith) (omega arith)

pub returns-in-272-to-344 : goal.returns-in-272-to-344
unfolding values homes
returns-in-272-to-344 c = diff-at _ (omega arith) (omega arith)

pub returns-in_default : goal.returns-in_default
returns-in_default c = vmov-at _ (omega arith) (omega arith)
