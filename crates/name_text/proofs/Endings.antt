-- A name that is put with no branch: after each byte, a space at the next place would end it.
-- Assumes nothing.
use mathlib.Core.Path.{◌≡◌, refl, sym, ap, ◌∙◌}
use mathlib.Core.Bool.{Bool, true, false, not}
use mathlib.Core.List.{List, [], ◌∷◌, ◌++◌}
use Prim.Native.Nat.{ℕ, ◌+◌, ◌≤◌}
use native.Mathlib.Nat.{add-zero}
use native.Mathlib.Numerals.{add-one}
use native.Mathlib.Omega.{arith}
use lib.Dec.{eqb}
use lib.ListN.{length, set, take, drop, length-append}
use lib.Seq.{sets, set-set, take-suc, take_all}
use borrow.Author.Tests.{eqb-true, eqb-false}
use mir.Val.{bool_byte}
use Rattle.names.specs.Names.{codes, name_of}
use Rattle.names.specs.Own.{name_byte}
use Rattle.laws.specs.Placed.{Placed}
use Rattle.name_text.proofs.Spaces.{ended, going, ending-byte, ending-length}
use Rattle.laws.proofs.Placed.{sets_then}

-- text stands in the buffer from place i to p, and a space stored at p would come after it; what is at p does not matter
pub record Ready (before : List ℕ) (i : ℕ) (text : List ℕ) (after : List ℕ) (p : ℕ) : Type 0 where
  pub spaced : set after p 32 ≡ sets before i (text ++ 32 ∷ [])
  pub next : p ≡ i + length text

pub ready : (l : List ℕ) (i : ℕ) → Ready l i [] l i
ready l i = record { spaced = refl; next = omega arith }

-- a byte stored over the last of a text
replaced : (l : List ℕ) (i : ℕ) (t : List ℕ) (a c : ℕ) → set (sets l i (t ++ a ∷ [])) (i + length t) c ≡ sets l i (t ++ c ∷ [])
replaced l i t a c =
    ap (λ (x : List ℕ). set x (i + length t) c) (sym (sets_then t l i (a ∷ [])))
    ∙ set-set (sets l i t) (i + length t) a c
    ∙ sets_then t l i (c ∷ [])

stored : {l l' : List ℕ} {i p : ℕ} (t : List ℕ) (c : ℕ) → Ready l i t l' p → set l' p c ≡ sets l i (t ++ c ∷ [])
stored {l = l} {l' = l'} {i = i} {p = p} t c f =
    sym (set-set l' p 32 c)
    ∙ ap (λ (x : List ℕ). set x p c) f.spaced
    ∙ ap (λ (k : ℕ). set (sets l i (t ++ 32 ∷ [])) k c) f.next
    ∙ replaced l i t 32 c

pub ready-byte : {l l' l'' : List ℕ} {i p : ℕ} (t : List ℕ) (c : ℕ) → Ready l i t l' p → l'' ≡ set l' p c → Ready l i (t ++ c ∷ []) l'' (p + 1)
ready-byte {l = l} {i = i} {p = p} t c f q =
    let e : p + 1 ≡ i + length (t ++ c ∷ []) = omega (arith, f.next, length-append t (c ∷ [])) in
    record {
      spaced = rw (q ∙ stored t c f, e) (sets_then (t ++ c ∷ []) l i (32 ∷ []));
      next = e;
    }

pub ready-space : {l l' l'' : List ℕ} {i p : ℕ} (t : List ℕ) → Ready l i t l' p → l'' ≡ set l' p 32 → Ready l i t l'' p
ready-space {l' = l'} {p = p} t f q = record { spaced = rw q (set-set l' p 32 32 ∙ f.spaced); next = f.next }

pub ready-end : {l l' l'' : List ℕ} {i p b : ℕ} (t : List ℕ) → length t ≤ b → Ready l i t l' p → l'' ≡ set l' p 32 → Placed (b + 1) l i (t ++ 32 ∷ []) l'' (p + 1)
ready-end t h f q = record {
  stored = q ∙ f.spaced;
  next = omega (arith, f.next, length-append t (32 ∷ []));
  short = omega (arith, length-append t (32 ∷ []));
}

-- a byte of a name's row after the fourth, and where the next goes
pub ending-turn : {l l' l'' : List ℕ} {i p w : ℕ} (m j c : ℕ) → c ≡ name_byte m (4 + j) → w ≡ bool_byte (not (eqb c 32))
    → Ready l i (take j (drop 4 (codes (name_of m)))) l' p → l'' ≡ set l' p c → Ready l i (take (j + 1) (drop 4 (codes (name_of m)))) l'' (p + w)
ending-turn {l = l} {l'' = l''} {i = i} {p = p} {w = w} m j c b e f q = go (eqb c 32) refl
  where
    go : (t : Bool) → eqb c 32 ≡ t → Ready l i (take (j + 1) (drop 4 (codes (name_of m)))) l'' (p + w)
    go true k =
        let s = drop 4 (codes (name_of m)) in
        let z = eqb-true c 32 k in
        let n : length s ≤ j = omega (arith, ended m (4 + j) (sym b ∙ z), ending-length m) in
        let a : take (j + 1) s ≡ take j s = take_all (j + 1) s (omega (arith, n)) ∙ sym (take_all j s n) in
        rw (a, e, k, add-zero) (ready-space (take j s) f (rw z at q))
    go false k =
        let s = drop 4 (codes (name_of m)) in
        let h = going m (4 + j) (λ z. eqb-false c 32 k (b ∙ z)) in
        let a : take (j + 1) s ≡ take j s ++ c ∷ [] = rw (add-one, b, ending-byte m j h) (take-suc s j 0 (omega (arith, h, ending-length m))) in
        rw (a, e, k) (ready-byte (take j s) c f q)

pub step-small : {w : ℕ} (b : Bool) → w ≡ bool_byte b → w ≤ 1
step-small true e = omega arith
step-small false e = omega arith
