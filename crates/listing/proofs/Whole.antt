-- A listing that fits the buffer, or does not.
-- Assumes nothing.
use mathlib.Core.Path.{◌≡◌, refl}
use mathlib.Core.Bool.{Bool, true, false}
use mathlib.Core.List.{List}
use Prim.Native.Nat.{ℕ, ◌+◌, ◌<◌, ◌≤◌}
use native.Mathlib.Omega.{arith}
use lib.Dec.{leb}
use lib.ListN.{length}
use borrow.Author.Tests.{leb-true, le-leb, lt-leb}
use Rattle.laws.specs.Answer.{accepted, refused}
use Rattle.laws.specs.Choice.{choose}
use Rattle.laws.proofs.Never.{never}
use Rattle.laws.specs.Placed.{Placed}
use Rattle.laws.proofs.Placed.{whole}
use Rattle.listing.specs.Answers.{length_for, out_after}

pub fits : {b r' : ℕ} (text out l : List ℕ) (r : ℕ) → Placed b out 0 text l r' → r ≡ 0 + length text → r ≤ length out → (accepted r ≡ length_for text out) × (l ≡ out_after text out)
unfolding length_for out_after
fits text out l r p e h =
    let k : length text ≡ r = omega arith in
    let q : length text ≤ length out = omega arith in
    let t = le-leb (length text) (length out) q in
    (rw (t, k), rw t (whole q p))

pub too_short : (text out : List ℕ) (r : ℕ) → r ≡ 0 + length text → length out < r → (refused 14 ≡ length_for text out) × (out ≡ out_after text out)
unfolding length_for out_after
too_short text out r e h =
    let t = lt-leb (length text) (length out) (omega arith) in
    (rw t, rw t)

-- what is answered is within the buffer
pub length-fits : (text out : List ℕ) (k : ℕ) → accepted k ≡ length_for text out → k ≤ length out
unfolding length_for
length-fits text out k e = go (leb (length text) (length out)) refl e
  where
    go : (t : Bool) → leb (length text) (length out) ≡ t → accepted k ≡ choose t (accepted (length text)) (refused 14) → k ≤ length out
    go true q e = let s : k ≡ length text = cc in omega (arith, leb-true (length text) (length out) q)
    go false q e = never (cc)
