-- What antt computes of the names: how many there are, that none is longer than 12 bytes, and which are pairwise.
-- Assumes nothing.
use mathlib.Core.Path.{◌≡◌, refl, sym, ap, ◌∙◌}
use mathlib.Core.Bool.{Bool, false}
use mathlib.Core.List.{List, [], ◌∷◌, map}
use Prim.Native.Nat.{ℕ, zero, suc, max, ◌+◌, ◌*◌, ◌/◌, ◌%◌, ◌^◌, ◌<◌, ◌≤◌}
use Prim.Native.String.{String}
use native.Mathlib.Nat.{le-max_left, le-max_right, le_trans}
use native.Mathlib.Omega.{arith}
use lib.ListN.{length, get_or, get_or-map, get_or-eq_default}
use lib.Dec.{eqb}
use Rattle.laws.proofs.Range.{values, agree}
use Rattle.laws.proofs.Padded.{laid, laid-at}
use Rattle.names.specs.Names.{names, name_of, codes, pairwise}
use Rattle.names.specs.Own.{name_byte}

pub count : length names ≡ 346
unfolding names
count = refl

-- a number past the names has none
pub no_name : (m : ℕ) → 346 ≤ m → name_of m ≡ ""
unfolding name_of
no_name m h = get_or-eq_default names "" (rw count h)

longest : List String → ℕ
longest [] = 0
longest (x ∷ xs) = max (length (codes x)) (longest xs)

within : (xs : List String) (m : ℕ) → length (codes (get_or xs m "")) ≤ longest xs
unfolding longest codes
within [] m = omega arith
within (x ∷ xs) zero = le-max_left _ _
within (x ∷ xs) (suc m) = le_trans (within xs m) (le-max_right _ _)

twelve : longest names ≡ 12
unfolding names codes longest
twelve = refl

pub short : (m : ℕ) → length (codes (name_of m)) ≤ 12
unfolding name_of
short m = rw twelve at (within names m)

-- the table of bytes has each byte of each name
pub laid-byte : (m j : ℕ) → m < 346 → j < 12 → get_or (laid 32 12 (map codes names)) (m * 12 + j) 0 ≡ name_byte m j
unfolding name_byte name_of codes names
laid-byte m j k h = laid-at 32 12 (map codes names) m j k h ∙ ap (λ (l : List ℕ). get_or l j 32) (get_or-map codes names m "")

-- which are pairwise, by one bit for each
abbrev pairwise_bit : ℕ → Bool
pairwise_bit m = eqb (get_or (0 ∷ 0x73f0 ∷ 0x1813_f000_0000 ∷ 0 ∷ 0 ∷ 0 ∷ []) (m / 64) 0 / 2 ^ (m % 64) % 2) 1

pub pairwise_bits : (m : ℕ) → m < 346 → pairwise_bit m ≡ pairwise (name_of m)
unfolding values names name_of pairwise
pairwise_bits = agree pairwise_bit (λ (m : ℕ). pairwise (name_of m)) 346 refl

pub no_pairwise : (m : ℕ) → 346 ≤ m → false ≡ pairwise (name_of m)
unfolding pairwise
no_pairwise m h = sym (ap pairwise (no_name m h))
