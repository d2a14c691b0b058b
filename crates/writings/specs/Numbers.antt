-- What a search for a value compares and answers.
-- Assumes nothing.
use Rattle.std.specs.Prelude.{Bool, false, ℕ, eqb, ℤ, pos, negsuc}
use Rattle.laws.specs.Answer.{Answer, accepted, refused}
use Rattle.laws.specs.Search.{Found, at, none}

abbrev pub same_number : ℤ → ℤ → Bool
same_number (pos m) (pos n) = eqb m n
same_number (pos m) (negsuc n) = false
same_number (negsuc m) (pos n) = false
same_number (negsuc m) (negsuc n) = eqb m n

-- the place that was found; a value that no pair carries is refused with 9
abbrev pub or_nine : Found → Answer ℕ
or_nine (at k) = accepted k
or_nine none = refused 9
