use mathlib.Core.Path.{refl, sym, ◌∙◌}
use native.Mathlib.Omega.{arith}
use lib.ListN.{length-append}
use Rattle.recipes.specs.Pairs.{join_pairs, recipe_pairs}
use Rattle.measure.proofs.of_half.Goals as goal

pub returns-in-One : goal.returns-in-One
unfolding recipe_pairs
returns-in-One c =
    let e = sym c.recipe_of-half.ensures ∙ c.in-One.is in
    ((λ r. rw e refl), omega arith)

pub returns-in-Twice : goal.returns-in-Twice
unfolding recipe_pairs
returns-in-Twice c =
    let e = sym c.recipe_of-half.ensures ∙ c.in-Twice.is in
    ((λ r. rw e (c.of_word.ensures.0 r)), omega (arith, c.of_word.ensures.1))

pub returns-in-Joined : goal.returns-in-Joined
unfolding recipe_pairs join_pairs
returns-in-Joined c =
    let e = sym c.recipe_of-half.ensures ∙ c.in-Joined.is in
    ((λ r. rw e (simp length-append (omega (arith, c.of_word-in-Joined.ensures.0 r, c.of_word-in-Joined-2.ensures.0 28)))), omega (arith, c.of_word-in-Joined.ensures.1, c.of_word-in-Joined-2.ensures.1))
