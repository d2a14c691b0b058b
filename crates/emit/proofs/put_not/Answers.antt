use lib.Dec.{lit<}
use Rattle.recipes.specs.Pairs.{pair_table, pairs_by}
use Rattle.recipes.proofs.Places.{scratch, standing-writes, set-standing}
use Rattle.emit.proofs.Puts.{put_as, put_then}
use Rattle.emit.proofs.put_not.Goals as goal

pub returns : goal.returns
unfolding pairs_by pair_table
returns c =
    let zero = put_as _ _ (standing-writes scratch (set-standing 0 (lit< tt))) c.put_place.ensures in
    put_then _ _ zero (rw c.invert.ensures at c.put.ensures)
