use mathlib.Core.Path.{◌≡◌, sym, ◌∙◌}
use Rattle.laws.specs.Answer.{accepted}
use Rattle.decode.specs.Editions.{reading_in}
use Rattle.trips.proofs.Promises.{read_then_written}
use Rattle.trips.proofs.read_and_write.Goals as goal

pub returns : goal.returns
returns c =
    let a = c.args in
    let i = c.in_ok-i.i in
    let e : reading_in a.edition a.hw1 a.hw2 a.address ≡ accepted i = sym c.in_ok-i.ensures in
    rw e (c.write.ensures ∙ read_then_written a.edition a.hw1 a.hw2 a.address i i.mark i.address c.ranges.hw1.fits c.ranges.hw2.fits e)
