use Rattle.recipes.specs.Pairs.{pair_table, pairs_by}
use Rattle.emit.proofs.Puts.{put_then}
use Rattle.emit.proofs.put_constant.Goals as goal

pub returns : goal.returns
unfolding pairs_by pair_table
returns c = put_then _ _ c.put_half.ensures c.put_half-2.ensures
