use Prim.Native.Nat.{◌+◌, ◌≤◌}
use lib.ListN.{take, drop}
use Rattle.names.specs.Names.{codes, name_of}
use Rattle.name_text.proofs.Endings.{Ready}
use Rattle.name_text.proofs.Names.put_ending.Given as goal

abbrev pub invariant-loop-j : goal.invariant-loop-j
invariant-loop-j l = record {
  near : l.at ≤ l.initial.at + l.j;
  ready : Ready l.initial.out l.initial.at (take l.j (drop 4 (codes (name_of l.m)))) l.out l.at;
}
