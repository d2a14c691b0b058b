-- The halfwords of records written one after another.
-- Assumes nothing.
use mathlib.Core.Path.{◌≡◌, refl, sym}
use mathlib.Core.List.{List, [], ◌∷◌, ◌++◌, append_assoc, append-nil}
use Prim.Native.Nat.{ℕ, ◌+◌}
use Rattle.laws.specs.Answer.{Answer}
use Rattle.insn.specs.declared.Insn.{Insn}
use Rattle.writings.specs.Forms.{Pair}
use Rattle.encode.specs.Writing.{writing}
use Rattle.recipes.specs.Pairs.{halfwords, halfwords_of}
use Rattle.text.specs.declared.Page.{Page}
use Rattle.text.specs.Writes.{Writes}
use Rattle.text.proofs.Writes.{then, nothing}

code-append : (xs ys : List Insn) → halfwords_of (xs ++ ys) ≡ halfwords_of xs ++ halfwords_of ys
unfolding halfwords_of
code-append [] ys = refl
code-append (x ∷ xs) ys = rw (code-append xs ys) (sym (append_assoc (halfwords (writing x)) (halfwords_of xs) (halfwords_of ys)))

pub put-none : {b : ℕ} (p : Page ℕ) → Writes b p (halfwords_of []) p
unfolding halfwords_of
put-none p = nothing p

-- a record, by what it is written as
pub put_as : {b : ℕ} {p q : Page ℕ} (x : Insn) (a : Answer Pair) → writing x ≡ a → Writes b p (halfwords a) q → Writes b p (halfwords_of (x ∷ [])) q
unfolding halfwords_of
put_as x a e w = rw (e, append-nil (halfwords a)) w

-- records and then others
pub put_then : {a b : ℕ} {p q r : Page ℕ} (xs ys : List Insn) → Writes a p (halfwords_of xs) q → Writes b q (halfwords_of ys) r → Writes (a + b) p (halfwords_of (xs ++ ys)) r
put_then xs ys w x = rw (code-append xs ys) (then w x)
