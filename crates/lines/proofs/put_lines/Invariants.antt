use mathlib.Core.List.{map}
use mathlib.Core.Path.{◌≡◌}
use Prim.Native.Nat.{◌*◌}
use Rattle.lines.specs.Listing.{pair_line, pair_sort, numbers_below, ended_lines}
use Rattle.text.specs.Writes.{Writes}
use Rattle.totals.proofs.Counts.{figures}
use Rattle.lines.proofs.put_lines.Given as goal

abbrev pub invariant-loop-i : goal.invariant-loop-i
invariant-loop-i l = record {
  text : Writes (55 * l.i) l.initial.page (ended_lines (map (pair_line l.input) (numbers_below l.i))) l.page;
  counted : l.counts ≡ figures (map (pair_sort l.input) (numbers_below l.i));
}
