use mathlib.Core.Path.{sym}
use Prim.Native.Nat.{◌≤◌}
use native.Mathlib.Omega.{arith}
use lib.ListN.{length}
use lib.Seq.{length-take-le}
use Rattle.listing.proofs.Whole.{length-fits}
use Rattle.lister.proofs.main.Goals as goal

pub slice_bounds-out-end : goal.slice_bounds-out-end
slice_bounds-out-end c =
    omega (arith, length-fits _ _ _ c.in-Ok.ensures.answer, c.list.auto.out)

pub slice_bounds-write_all-end : goal.slice_bounds-write_all-end
slice_bounds-write_all-end c =
    let fits : c.in-Ok.k ≤ length c.list.new.out = omega (arith, length-fits _ _ _ c.in-Ok.ensures.answer, c.list.auto.out) in
    sym (length-take-le _ _ fits)
