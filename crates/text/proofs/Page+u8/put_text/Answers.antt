use native.Mathlib.Omega.{arith}
use mathlib.Core.Path.{◌∙◌}
use Rattle.laws.proofs.Placed.{copied}
use Rattle.text.proofs.Page+u8.put_text.Goals as goal

pub loop-b-preserved : goal.loop-b-preserved
loop-b-preserved c =
    let l = c.loop-b in
    let w = c.put.ensures in
    record { buffer = w.buffer ∙ l.invariant.buffer; placed = copied c.args.s.now l.b-index 0 (omega arith) l.invariant.placed w.placed }
