-- Promises beyond the contracts; proofs/Promises.antt proves each under its name.
-- Assumes nothing.
use Rattle.std.specs.Prelude.{◌≡◌, ℕ, ◌<◌, ◌≤◌, length}
use Rattle.names.specs.Names.{names, number_of, name_of, codes}

-- there are 346 mnemonics, and none is longer than 12 bytes
abbrev pub NamesCounted : Type 0
NamesCounted = length names ≡ 346

abbrev pub NamesShort : Type 0
NamesShort = (m : ℕ) → length (codes (name_of m)) ≤ 12

-- a number's name has that number
abbrev pub NumbersBack : Type 0
NumbersBack = (m : ℕ) → m < 346 → number_of (name_of m) ≡ m
