use mathlib.Core.List.{map}
use mathlib.Core.Path.{◌≡◌, refl, sym}
use Prim.Native.Nat.{◌/◌}
use native.Mathlib.Omega.{arith}
use lib.ListN.{length}
use Rattle.lines.specs.Listing.{pair_line, pair_sort, numbers_below, figure, ended_lines}
use Rattle.totals.specs.Totals.{count, totals_text}
use Rattle.totals.proofs.Counts.{figure-small}
use Rattle.lines.proofs.PairLines.{as_many, ended-last, one_more, figures-more, totals-line}
use Rattle.text.proofs.Writes.{then, nothing, widen, reword}
use Rattle.lines.proofs.put_lines.Goals as goal

pub loop-i-init : goal.loop-i-init
unfolding numbers_below ended_lines count
loop-i-init c = record { text = nothing _; counted = refl }

pub count_one-requires : goal.count_one-requires
count_one-requires c =
    let l = c.loop-i in
    let sorts = map (pair_sort c.args.input.now) (numbers_below l.i) in
    rw l.invariant.counted (omega (arith, figure-small sorts c.put_line-sort.result, as_many (pair_sort c.args.input.now) l.i))

pub loop-i-preserved : goal.loop-i-preserved
unfolding pair_line pair_sort
loop-i-preserved c =
    let l = c.loop-i in
    let a = c.args in
    let h = rw (c.halfword_at.ensures, c.halfword_at-in-loop-i.ensures) at c.put_line-sort.ensures in
    record {
      text = widen (omega arith) (reword (sym (one_more a.input.now l.i)) (then l.invariant.text h.text));
      counted = figures-more a.input.now l.i l.invariant.counted h.sort c.count_one.ensures;
    }

pub returns : goal.returns
returns c =
    let l = c.loop-i in
    let input = c.args.input.now in
    let e : l.i ≡ length input / 4 = omega arith in
    reword (sym (ended-last (map (pair_line input) (numbers_below (length input / 4))) (totals_text (figure input)))) (then (rw e at l.invariant.text) (reword (totals-line input (rw e at l.invariant.counted)) c.put_totals.ensures))
