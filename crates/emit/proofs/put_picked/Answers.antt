use Rattle.recipes.specs.Pairs.{pair_table, pairs_by}
use Rattle.emit.proofs.Puts.{put_then}
use Rattle.emit.proofs.put_picked.Goals as goal

pub returns : goal.returns
unfolding pairs_by pair_table
returns c = put_then _ _ (rw c.copy.ensures at c.put.ensures) (put_then _ _ (rw c.pick.ensures at c.put-2.ensures) (rw c.copy-2.ensures at c.put-3.ensures))
