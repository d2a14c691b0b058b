use lib.Dec.{lit<}
use Rattle.recipes.specs.Pairs.{join_pairs}
use Rattle.recipes.proofs.Places.{double-register, standing-writes, mask-standing}
use Rattle.emit.proofs.Puts.{put_as, put_then}
use Rattle.emit.proofs.put_joined.Goals as goal

pub returns : goal.returns
unfolding join_pairs
returns c =
    let mask = put_as _ _ (standing-writes (double-register 30 (lit< tt)) mask-standing) c.put_place.ensures in
    put_then _ _ mask (rw c.join_words.ensures at c.put.ensures)
