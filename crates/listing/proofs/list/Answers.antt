use native.Mathlib.Omega.{arith}
use Rattle.listing.proofs.Whole.{fits, too_short}
use Rattle.listing.proofs.list.Goals as goal

pub returns-then-most-out : goal.returns-then-most-out
returns-then-most-out c =
    let p = c.put_listing.ensures in
    let f = fits _ _ _ _ p p.next (omega (arith, p.next, p.short, c.most.ensures, c.if-most-out.true)) in
    record { answer = f.0; after = f.1 }

pub returns-then-length-out : goal.returns-then-length-out
returns-then-length-out c =
    let f = fits _ _ _ _ c.put_listing-then-length-out.ensures c.put_listing-length.ensures.next (omega (arith, c.if-length-out.true)) in
    record { answer = f.0; after = f.1 }

pub returns-else-length-out : goal.returns-else-length-out
returns-else-length-out c =
    let f = too_short _ _ _ c.put_listing-length.ensures.next (omega (arith, c.if-length-out.false)) in
    record { answer = f.0; after = f.1 }
