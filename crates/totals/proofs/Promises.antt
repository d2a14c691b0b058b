-- The promises of specs/Promises.antt.
-- Assumes nothing.
use mathlib.Core.Bool.{false}
use mathlib.Core.Path.{◌≡◌, refl}
use Prim.Native.Nat.{ℕ}
use Rattle.laws.specs.Answer.{Answer, accepted, refused}
use Rattle.insn.specs.declared.Insn.{Insn}
use Rattle.decode.specs.declared.Family.{Family}
use Rattle.decode.specs.declared.Family.TheVariants.{ThreeSame, ThreeDifferent, Shift, ModifiedImmediate, NoFamily}
use Rattle.decode.specs.Reading.{family_of, in_family, reading}
use Rattle.totals.specs.declared.Sort.TheVariants.{Refused}
use Rattle.totals.specs.Totals.{family_sort, reading_sort, sort_of, column, is_sort}
use Rattle.totals.specs.Promises.{is_refused, RefusedCounted}

-- in a family with a sort of its own
counted : (f : Family) → is_sort Refused (family_sort f) ≡ false → (x : Answer Insn) → is_sort Refused (reading_sort f x) ≡ is_refused x
unfolding reading_sort column
counted f e (accepted i) = e
counted f e (refused n) = refl

in-family : (f : Family) (hw1 hw2 : ℕ) → is_sort Refused (reading_sort f (in_family f hw1 hw2 0)) ≡ is_refused (in_family f hw1 hw2 0)
unfolding family_sort reading_sort column in_family
in-family ThreeSame hw1 hw2 = counted ThreeSame refl (in_family ThreeSame hw1 hw2 0)
in-family ThreeDifferent hw1 hw2 = counted ThreeDifferent refl (in_family ThreeDifferent hw1 hw2 0)
in-family Shift hw1 hw2 = counted Shift refl (in_family Shift hw1 hw2 0)
in-family ModifiedImmediate hw1 hw2 = counted ModifiedImmediate refl (in_family ModifiedImmediate hw1 hw2 0)
in-family NoFamily hw1 hw2 = refl

pub refused_counted : RefusedCounted
unfolding sort_of reading
refused_counted hw1 hw2 = in-family (family_of hw1 hw2) hw1 hw2
