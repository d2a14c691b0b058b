use lib.ListN.{take}
use Rattle.text.specs.Writes.{Writes}
use Rattle.text.proofs.Page+u8.put_text.Given as goal

abbrev pub invariant-loop-b : goal.invariant-loop-b
invariant-loop-b l = Writes l.b-index l.initial.self (take l.b-index l.s) l.self
