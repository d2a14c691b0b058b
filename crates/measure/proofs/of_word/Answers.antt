use native.Mathlib.Omega.{arith}
use lib.ListN.{length-append}
use Rattle.recipes.specs.Pairs.{word_pairs}
use Rattle.measure.proofs.of_word.Goals as goal

pub returns : goal.returns
unfolding word_pairs
returns c = ((λ r. simp length-append (omega (arith, c.of_byte.ensures.0 r, c.of_byte-2.ensures.0 r, c.of_byte-3.ensures.0 r))), omega (arith, c.of_byte.ensures.1, c.of_byte-2.ensures.1, c.of_byte-3.ensures.1))
