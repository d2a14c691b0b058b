use mathlib.Core.Path.{sym, ◌∙◌}
use native.Mathlib.Omega.{arith}
use Rattle.text.proofs.Writes.{widen}
use Rattle.recipes.specs.Pairs.{recipe_pairs}
use Rattle.recipes.proofs.Places.{double-register, place-writes, one-leaves, leaves-read, one_of}
use Rattle.emit.proofs.Puts.{put_as, put_then}
use Rattle.emit.proofs.put_half.Goals as goal

pub returns-in-One : goal.returns-in-One
unfolding recipe_pairs
returns-in-One c =
    let e = sym c.recipe_of-half.ensures ∙ c.in-One.is in
    let o = one-leaves c.args.v _ (one_of c.args.v _ e) in
    rw e (widen (omega arith) (put_as _ _ (place-writes (double-register c.args.r c.requires.1) (leaves-read c.args.v _ o.1 o.0)) c.put_place.ensures))

pub returns-in-Twice : goal.returns-in-Twice
unfolding recipe_pairs
returns-in-Twice c =
    let e = sym c.recipe_of-half.ensures ∙ c.in-Twice.is in
    rw e (widen (omega arith) c.put_word.ensures)

pub returns-in-Joined : goal.returns-in-Joined
unfolding recipe_pairs
returns-in-Joined c =
    let e = sym c.recipe_of-half.ensures ∙ c.in-Joined.is in
    let low = c.put_word-in-Joined.ensures in
    let high = c.put_word-in-Joined-2.ensures in
    let mask = c.put_joined.ensures in
    rw e (put_then _ _ low (put_then _ _ high mask))
