use mathlib.Core.Path.{◌≡◌, sym, ◌∙◌}
use Rattle.laws.specs.Answer.{accepted}
use Rattle.writings.specs.Forms.{pair}
use Rattle.encode.specs.Writing.{writing_in}
use Rattle.trips.proofs.Held.{operand-held, place-held}
use Rattle.trips.proofs.Promises.{written_then_read}
use Rattle.trips.proofs.write_and_read.Goals as goal

pub returns : goal.returns
returns c =
    let a = c.args in
    let e : writing_in a.edition a.i ≡ accepted (pair c.in_ok-hw1.hw1 c.in_ok-hw1.hw2) = sym c.in_ok-hw1.ensures in
    let held = place-held a.i (operand-held a.i.second _ c.well_formed.1.0.1.1.1.1.1.1.1.0) in
    let r = written_then_read a.edition a.i _ _ a.address held e in
    rw e (c.read.ensures, (r.mark, c.read.ensures ∙ r.read))
