-- The promise of specs/Promises.antt.
-- Assumes nothing.
use mathlib.Core.Path.{sym, ◌∙◌}
use lib.IntN.{pos, negsuc}
use Rattle.laws.proofs.Never.{never}
use Rattle.amount_values.specs.Promises.{AmountOnce}
use Rattle.amount_values.proofs.Amounts as Amounts

pub amount_once : AmountOnce
amount_once class column (pos k) t u ht hu et eu = Amounts.only-place class column k t ht et ∙ sym (Amounts.only-place class column k u hu eu)
amount_once class column (negsuc k) t u ht hu et eu = let r = (Amounts.says class column (negsuc k) t et).its-amount in never (cc)
