use mathlib.Core.Path.{sym, ◌∙◌}
use native.Mathlib.Omega.{arith}
use Rattle.names.specs.Names.{codes}
use Rattle.text.proofs.Writes.{then, widen, reword}
use Rattle.lines.proofs.Listable.{listable}
use Rattle.lines.proofs.PairLines.{listed, unlisted}
use Rattle.lines.proofs.put_all.Goals as goal

pub put_five-requires-clause-n_bound : goal.put_five-requires-clause-n_bound
put_five-requires-clause-n_bound c =
    omega (arith, listable _ (sym c.is_listable.ensures ∙ c.if-is_listable.true))

pub put_lines-requires-clause-input_len_bound : goal.put_lines-requires-clause-input_len_bound
put_lines-requires-clause-input_len_bound c =
    omega (arith, listable _ (sym c.is_listable.ensures ∙ c.if-is_listable.true))

pub returns-then-is_listable : goal.returns-then-is_listable
unfolding codes
returns-then-is_listable c =
    let e = sym c.is_listable.ensures ∙ c.if-is_listable.true in
    reword (listed c.args.input.now e)
    (rw e (widen (omega arith) (then (then c.put_text.ensures c.put_five.ensures) (then c.put.ensures c.put_lines.ensures))))

pub returns-else-is_listable : goal.returns-else-is_listable
unfolding codes
returns-else-is_listable c =
    let e = sym c.is_listable.ensures ∙ c.if-is_listable.false in
    reword (unlisted c.args.input.now e) (rw e c.put_text-else-is_listable.ensures)
