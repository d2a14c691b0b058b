use mathlib.Core.Path.{refl}
use Rattle.text.proofs.Decimal.{small}
use Rattle.text.proofs.Page+u8.put_small.Goals as goal

pub returns : goal.returns
returns c =
    record { buffer = refl; placed = small c.args.n c.requires.n_bound c.from.ensures c.store.ensures c.store-2.ensures }
