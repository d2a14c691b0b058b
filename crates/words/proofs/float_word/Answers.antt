use mathlib.Core.Path.{sym}
use lib.Ieee.{to_bits}
use Rattle.words.proofs.Floats.{the_nan}
use Rattle.words.proofs.float_word.Goals as goal

pub returns-then-is_nan : goal.returns-then-is_nan
unfolding to_bits
returns-then-is_nan c = rw (← the_nan _ (sym c.if-is_nan.ensures.value))
