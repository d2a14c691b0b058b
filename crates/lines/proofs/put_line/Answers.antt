use mathlib.Core.List.{[], ◌∷◌}
use mathlib.Core.Path.{refl}
use native.Mathlib.Omega.{arith}
use lib.ListN.{length-append}
use Rattle.lines.specs.Listing.{line_text}
use Rattle.text.proofs.Writes.{then, respell}
use Rattle.lines.proofs.Short.{line-short}
use Rattle.lines.proofs.put_line.Goals as goal

pub returns-clause-text : goal.returns-clause-text
unfolding line_text
returns-clause-text c =
    respell {a = 95} refl (omega (arith, length-append (line_text c.args.i c.args.hw1 c.args.hw2) (10 ∷ []), line-short c.args.i c.args.hw1 c.args.hw2 (omega arith)))
    (then (then (then (then c.put_five.ensures c.put_halfword.ensures) c.put_halfword-2.ensures)
    (then c.put.ensures c.put_reading-sort.ensures.text)) c.put-2.ensures)
