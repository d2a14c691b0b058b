-- The promises of specs/Promises.antt.
-- Assumes nothing.
use mathlib.Core.Path.{refl}
use Prim.Native.Nat.{ℕ}
use Rattle.laws.proofs.Range.{values, agree}
use Rattle.names.specs.Names.{names, number_of, name_of}
use Rattle.names.specs.Promises.{NamesCounted, NamesShort, NumbersBack}
use Rattle.names.proofs.Spellings.{count, short}

pub names_counted : NamesCounted
names_counted = count

pub names_short : NamesShort
names_short = short

-- antt computes it for each
pub numbers_back : NumbersBack
unfolding values names name_of number_of
numbers_back = agree (λ (m : ℕ). number_of (name_of m)) (λ (m : ℕ). m) 346 refl
