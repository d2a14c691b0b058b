use mathlib.Core.Path.{sym}
use Rattle.emit.proofs.Puts.{put_as}
use Rattle.emit.proofs.put.Goals as goal

pub returns : goal.returns
returns c = put_as _ _ (sym c.write.ensures) c.put_written.ensures
