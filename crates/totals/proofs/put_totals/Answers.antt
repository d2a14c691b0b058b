use mathlib.Core.List.{List}
use Prim.Native.Nat.{ℕ}
use Prim.Native.String.{String}
use native.Mathlib.Omega.{arith}
use lib.ListN.{get_or}
use Rattle.names.specs.Names.{codes}
use Rattle.text.specs.declared.Page.{Page}
use Rattle.text.specs.Writes.{Writes}
use Rattle.text.proofs.Writes.{then, widen}
use Rattle.totals.specs.Totals.{column, worded, totals_text}
use Rattle.totals.proofs.put_totals.Goals as goal

-- the text that was placed is the word with the number that stands at k
figure-at : {b : ℕ} {p q : Page ℕ} (counts : List ℕ) (word : String) (k : ℕ) → Writes b p (worded word (get_or counts k 0)) q → Writes b p (worded word (get_or counts k 0)) q
figure-at counts word k w = w

pub returns : goal.returns
unfolding column totals_text codes
returns c =
    let l = c.args.counts.now in
    widen (omega arith)
    (then (then (then (then (then (figure-at l "same " 0 c.put_figure.ensures) (figure-at l " diff " 1 c.put_figure-2.ensures)) (figure-at l " shift " 2 c.put_figure-3.ensures)) (figure-at l " imm " 3 c.put_figure-4.ensures)) (figure-at l " refused " 4 c.put_figure-5.ensures)) c.put.ensures)
