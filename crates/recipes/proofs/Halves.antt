-- A constant's pairs are written, and at most ten a half.
-- Assumes nothing.
use mathlib.Core.Path.{◌≡◌, refl, sym, ◌∙◌}
use mathlib.Core.Bool.{Bool, true, false}
use mathlib.Core.List.{[], ◌∷◌, ◌++◌}
use Prim.Native.Nat.{ℕ, ◌*◌, ◌/◌, ◌%◌, ◌^◌, ◌≤◌, ◌<◌}
use native.Mathlib.Omega.{arith}
use lib.Dec.{eqb, lit<}
use lib.ListN.{length, length-append}
use borrow.Author.Tests.{eqb-false}
use Rattle.laws.specs.Choice.{choose}
use Rattle.insn.specs.declared.Operand.TheVariants.{D}
use Rattle.recipes.specs.declared.Recipe.{Recipe}
use Rattle.recipes.specs.declared.Recipe.TheVariants.{One, Twice, Joined}
use Rattle.recipes.specs.Pairs.{immediate, byte_of, add_byte, word_pairs, join_pairs, recipe_of, recipe_pairs, half_pairs, two_of}
use Rattle.recipes.proofs.Names.{bif-known}
use Rattle.recipes.proofs.Places.{placed, double-register, standing-written, set-standing, zero-byte, join-standing, mask-standing, one-leaves, leaves-read, one_of}
use Rattle.recipes.proofs.Writes.{Written, double-is, three-writes, written-append}

module _ (r : ℕ) (hr : r < 32) where
  add-written : (b k : ℕ) → b < 256 → k < 4 → Written (add_byte r (b * 2 ^ (8 * k)))
  unfolding add_byte
  add-written b k hb hk = go (eqb (b * 2 ^ (8 * k)) 0) refl
    where
      byte : ℕ
      byte = b * 2 ^ (8 * k)

      go : (t : Bool) → eqb byte 0 ≡ t → Written (choose t [] (two_of "vorr.i32" (D r) (immediate byte) ∷ []))
      go true e = tt
      go false e = (standing-written (double-register r hr) (join-standing k b hk hb (eqb-false b 0 (sym (zero-byte k b hk hb) ∙ e))), tt)

  word-written : (v : ℕ) → Written (word_pairs r v)
  unfolding word_pairs
  word-written v = (
    standing-written (double-register r hr) (set-standing (v % 256) (omega arith)),
    written-append (add_byte r (byte_of v 1)) (add_byte r (byte_of v 2) ++ add_byte r (byte_of v 3)) (add-written (v / 2 ^ 8 % 256) 1 (omega arith) (omega arith))
        (written-append (add_byte r (byte_of v 2)) (add_byte r (byte_of v 3)) (add-written (v / 2 ^ 16 % 256) 2 (omega arith) (omega arith))
        (add-written (v / 2 ^ 24 % 256) 3 (omega arith) (omega arith))),
  )

join_written : (r : ℕ) → r < 32 → Written (join_pairs r)
unfolding join_pairs
join_written r hr = (
  standing-written (double-register 30 (lit< tt)) mask-standing,
  (three-writes (double-is r hr) (double-is 28 (lit< tt)) (double-is 30 (lit< tt)) bif-known, tt),
)

pub half-written : (r : ℕ) → r < 32 → (v : ℕ) → Written (half_pairs r v)
unfolding recipe_pairs
half-written r hr v = go (recipe_of v) refl
  where
    go : (h : Recipe) → recipe_of v ≡ h → Written (recipe_pairs r h)
    go (One t) e = let o = one-leaves v t (one_of v t e) in (placed (double-register r hr) (leaves-read v t o.1 o.0), tt)
    go (Twice w) e = word-written r hr w
    go (Joined low high) e =
        written-append (word_pairs r low) (word_pairs 28 high ++ join_pairs r) (word-written r hr low)
        (written-append (word_pairs 28 high) (join_pairs r) (word-written 28 (lit< tt) high) (join_written r hr))

add-few : (r byte : ℕ) → length (add_byte r byte) ≤ 1
unfolding add_byte
add-few r byte = go (eqb byte 0)
  where
    go : (t : Bool) → length (choose t [] (two_of "vorr.i32" (D r) (immediate byte) ∷ [])) ≤ 1
    go true = omega arith
    go false = omega arith

word-few : (r v : ℕ) → length (word_pairs r v) ≤ 4
unfolding word_pairs
word-few r v = simp length-append (omega (arith, add-few r (byte_of v 1), add-few r (byte_of v 2), add-few r (byte_of v 3)))

recipe-few : (r : ℕ) (h : Recipe) → length (recipe_pairs r h) ≤ 10
unfolding recipe_pairs join_pairs
recipe-few r (One t) = omega arith
recipe-few r (Twice v) = omega (arith, word-few r v)
recipe-few r (Joined low high) = simp length-append (omega (arith, word-few r low, word-few 28 high))

pub half-few : (r v : ℕ) → length (half_pairs r v) ≤ 10
half-few r v = recipe-few r (recipe_of v)
