use Prim.Native.Nat.{◌%◌}
use native.Mathlib.Omega.{arith}
use Rattle.recipes.specs.Pairs.{word_pairs}
use Rattle.recipes.proofs.Places.{double-register, standing-writes, set-standing}
use Rattle.emit.proofs.Puts.{put_as, put_then}
use Rattle.emit.proofs.put_word.Goals as goal

pub returns : goal.returns
unfolding word_pairs
returns c =
    let b = c.args.v % 256 in
    let one = put_as _ _ (standing-writes (double-register c.args.r c.requires.1) (set-standing b (omega arith))) c.put_place.ensures in
    put_then _ _ one (put_then _ _ c.put_byte.ensures (put_then _ _ c.put_byte-2.ensures c.put_byte-3.ensures))
