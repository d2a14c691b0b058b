-- What a comparison of whole numbers says.
-- Assumes nothing.
use mathlib.Core.Path.{◌≡◌, refl, ap}
use mathlib.Core.Bool.{true}
use lib.IntN.{ℤ, pos, negsuc}
use borrow.Author.Tests.{eqb-true, eq-eqb}
use Rattle.laws.proofs.Never.{wrong}
use Rattle.writings.specs.Numbers.{same_number}

pub same_number_lem : (v w : ℤ) → same_number v w ≡ true → v ≡ w
same_number_lem (pos m) (pos n) e = ap pos (eqb-true m n e)
same_number_lem (pos m) (negsuc n) e = wrong e
same_number_lem (negsuc m) (pos n) e = wrong e
same_number_lem (negsuc m) (negsuc n) e = ap negsuc (eqb-true m n e)

pub number_same : (v w : ℤ) → v ≡ w → same_number v w ≡ true
number_same v w e = rw (← e) (self v)
  where
    self : (v : ℤ) → same_number v v ≡ true
    self (pos m) = eq-eqb m m refl
    self (negsuc m) = eq-eqb m m refl
