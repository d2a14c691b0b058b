-- The numbers in a line of a replayed list.
-- Assumes nothing.
use Rattle.std.specs.Prelude.{List, [], ◌∷◌, ◌≡◌, ℕ, ◌+◌, ◌*◌, ◌%◌, ◌^◌, ◌<◌, ltb, take, drop, get_or, ⊤, Result, Ok, Err}
use Rattle.std.specs.List.{fold}
use Rattle.laws.specs.Choice.{choose}
use Rattle.insn.specs.declared.Refusal.{Refusal}
use Rattle.insn.specs.Refusals.{number}

-- 0 where it is done, or the refusal's number
abbrev pub outcome_number : Result ⊤ Refusal → ℕ
outcome_number (Ok done) = 0
outcome_number (Err f) = number f

-- the value of a hexadecimal digit, 0 to 9 or a to f; any other byte stands for some digit too
abbrev pub digit_value : ℕ → ℕ
digit_value c = choose (ltb c 97) (c % 16) ((c % 16 + 9) % 16)

-- the number that one more digit makes of v: the lowest 64 bits of it
abbrev pub with_digit : ℕ → ℕ → ℕ
with_digit v c = v % 2 ^ 60 * 16 + digit_value c

-- the number of the n digits from a place of the line on, as far as it goes
abbrev pub number_at : List ℕ → ℕ → ℕ → ℕ
number_at line at n = fold with_digit 0 (take n (drop at line))

-- the 32 doublewords of 16 digits each from a place of the line on
abbrev pub FileAt : List ℕ → ℕ → List ℕ → Type 0
FileAt line at file = (k : ℕ) → k < 32 → get_or file k 0 ≡ number_at line (at + 16 * k) 16

-- the record in a line of a list of pairs: mnemonic, mark, address, count, then kind and value of three places
abbrev pub record_in : List ℕ → List ℕ
record_in line =
    number_at line 24 4 ∷ number_at line 29 1 ∷ number_at line 12 8 ∷ number_at line 31 1
    ∷ number_at line 33 1 ∷ number_at line 35 16
    ∷ number_at line 52 1 ∷ number_at line 54 16
    ∷ number_at line 71 1 ∷ number_at line 73 16
    ∷ []
