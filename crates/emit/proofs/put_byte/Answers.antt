use mathlib.Core.Path.{◌∙◌}
use Prim.Native.Nat.{◌%◌, ◌<◌}
use native.Mathlib.Omega.{arith}
use borrow.Author.Tests.{eq-eqb, ne_eqb}
use Rattle.recipes.specs.Pairs.{add_byte}
use Rattle.recipes.proofs.Places.{double-register, standing-writes, zero-byte, join-standing}
use Rattle.emit.proofs.Puts.{put-none, put_as}
use Rattle.emit.proofs.put_byte.Goals as goal

pub returns-else-byte-ne0 : goal.returns-else-byte-ne0
unfolding add_byte
returns-else-byte-ne0 c =
    rw (zero-byte c.args.k (c.args.v % 256) c.requires.1.1 (omega arith) ∙ eq-eqb _ 0 c.if-byte-ne0.false) (put-none _)

pub returns-then-byte-ne0 : goal.returns-then-byte-ne0
unfolding add_byte
returns-then-byte-ne0 c =
    let k = c.args.k in
    let b = c.args.v % 256 in
    let hk = c.requires.1.1 in
    let small : b < 256 = omega arith in
    let not-0 = c.if-byte-ne0.true in
    rw (zero-byte k b hk small ∙ ne_eqb b 0 not-0)
    (put_as _ _ (standing-writes (double-register c.args.r c.requires.1.0) (join-standing k b hk small not-0)) c.put_place.ensures)
