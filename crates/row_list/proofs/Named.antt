-- The row that a word names, by the word's length and digits.
-- Assumes nothing.
use mathlib.Core.Path.{◌≡◌, refl}
use mathlib.Core.Bool.{false}
use mathlib.Core.List.{List, [], ◌∷◌}
use mathlib.Core.Logic.{◌≢◌}
use Prim.Native.Nat.{ℕ, ◌/◌, ◌<◌}
use native.Mathlib.Omega.{arith}
use lib.ListN.{length, get_or}
use lib.Dec.{eqb}
use borrow.Author.Tests.{ne_eqb}
use Rattle.std.specs.Str.{bytes_eq}
use Rattle.laws.specs.Search.{first_from}
use Rattle.laws.proofs.Range.{values, agree}
use Rattle.laws.proofs.Search.{nothing}
use Rattle.laws.proofs.Tests.{sides, both-no}
use Rattle.steps.specs.Sets.{set_of}
use Rattle.text.specs.Text.{digits, decimal}
use Rattle.text.proofs.Decimal.{decimal-one, decimal-two}
use Rattle.row_list.specs.Answers.{list_answer}
use Rattle.row_list.specs.Lists.{Parsed, no_list, row_named, rows_named, as_set}
use Rattle.row_list.specs.Own.{digit_row}

-- texts of other lengths
unlike : (a b : List ℕ) → length a ≢ length b → bytes_eq a b ≡ false
unlike [] [] n = absurd (n refl)
unlike [] (y ∷ b) n = refl
unlike (x ∷ a) [] n = refl
unlike (x ∷ a) (y ∷ b) n = rw (unlike a b (λ e. n (rw e))) (both-no (eqb x y))

-- what a word lists alone
abbrev alone : List ℕ → Parsed ℕ
alone word = as_set (rows_named (word ∷ []))

no_row : (word : List ℕ) → ((r : ℕ) → r < 14 → bytes_eq word (decimal r) ≡ false) → no_list ≡ alone word
unfolding row_named rows_named
no_row word other = rw (nothing (λ r. bytes_eq word (decimal r)) 14 other)

-- a word of neither one nor two bytes
pub no_length : (word : List ℕ) → length word ≢ 1 → length word ≢ 2 → no_list ≡ alone word
no_length word one two =
    no_row word λ r h. unlike word (decimal r)
    (sides 10 r (λ l. rw (decimal-one r l) one) (λ l. rw (decimal-two r l (omega arith)) two))

-- two bytes, of which the first is no 1
no-ten : (a b : ℕ) → a ≢ 49 → no_list ≡ alone (a ∷ b ∷ [])
no-ten a b other =
    no_row (a ∷ b ∷ []) λ r h. sides 10 r (λ l. unlike (a ∷ b ∷ []) (decimal r) (rw (decimal-one r l) (λ e. let z : ⊥ = omega arith in z)))
    (λ l.
    let ten : r / 10 ≡ 1 = omega arith in
    rw (decimal-two r l (omega arith), ten, ne_eqb a 49 other))

-- one digit; and one after a 1
one-digit : (b : ℕ) → b < 256 → list_answer (digit_row 0 10 b) ≡ alone (b ∷ [])
unfolding values first_from digits decimal row_named rows_named set_of
one-digit = agree (λ (b : ℕ). list_answer (digit_row 0 10 b)) (λ (b : ℕ). alone (b ∷ [])) 256 refl

two_digits : (b : ℕ) → b < 256 → list_answer (digit_row 10 4 b) ≡ alone (49 ∷ b ∷ [])
unfolding values first_from digits decimal row_named rows_named set_of
two_digits = agree (λ (b : ℕ). list_answer (digit_row 10 4 b)) (λ (b : ℕ). alone (49 ∷ b ∷ [])) 256 refl

-- a word of one byte, and of two
pub one_byte : (word : List ℕ) → length word ≡ 1 → get_or word 0 0 < 256 → list_answer (digit_row 0 10 (get_or word 0 0)) ≡ alone word
one_byte [] e h = absurd (let z : ⊥ = omega arith in z)
one_byte (b ∷ []) e h = one-digit b h
one_byte (b ∷ c ∷ word) e h = absurd (let z : ⊥ = omega arith in z)

pub no_one : (word : List ℕ) → length word ≡ 2 → get_or word 0 0 ≢ 49 → no_list ≡ alone word
no_one [] e n = absurd (let z : ⊥ = omega arith in z)
no_one (a ∷ []) e n = absurd (let z : ⊥ = omega arith in z)
no_one (a ∷ b ∷ []) e n = no-ten a b n
no_one (a ∷ b ∷ c ∷ word) e n = absurd (let z : ⊥ = omega arith in z)

pub two_bytes : (word : List ℕ) → length word ≡ 2 → get_or word 0 0 ≡ 49 → get_or word 1 0 < 256 → list_answer (digit_row 10 4 (get_or word 1 0)) ≡ alone word
two_bytes [] e t h = absurd (let z : ⊥ = omega arith in z)
two_bytes (a ∷ []) e t h = absurd (let z : ⊥ = omega arith in z)
two_bytes (a ∷ b ∷ []) e t h = rw t (two_digits b h)
two_bytes (a ∷ b ∷ c ∷ word) e t h = absurd (let z : ⊥ = omega arith in z)
