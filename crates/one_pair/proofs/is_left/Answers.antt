use mathlib.Core.Path.{sym}
use Rattle.one_pair.proofs.Tested.{refused-zero, no-pattern, by-pattern}
use Rattle.one_pair.proofs.is_left.Goals as goal

pub returns-then-is_zero_refused : goal.returns-then-is_zero_refused
returns-then-is_zero_refused c = refused-zero c.args.v c.args.t c.requires.0 (sym c.if-is_zero_refused.ensures)

pub returns-in-Ok : goal.returns-in-Ok
returns-in-Ok c =
    by-pattern c.args.v c.args.t c.requires.0 c.requires.1 (sym c.if-is_zero_refused.ensures) _ _ (sym c.in-Ok.ensures) c.turned.ensures

pub returns-in-Err : goal.returns-in-Err
returns-in-Err c = no-pattern c.args.v c.args.t c.requires.0 _ (sym c.in-Err.ensures)
