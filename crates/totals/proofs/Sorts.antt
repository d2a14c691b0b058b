-- The sort of a pair, from its family and its reading; and a sort's column, which is its number in the code.
-- Assumes nothing.
use mathlib.Core.Path.{◌≡◌, refl}
use Prim.Native.Nat.{ℕ}
use denote.Enum.Declared.{tag_of}
use Rattle.laws.specs.Answer.{accepted, refused}
use Rattle.insn.specs.declared.Insn.{Insn}
use Rattle.decode.specs.declared.Family.{Family}
use Rattle.decode.specs.Reading.{family_of, reading}
use Rattle.totals.specs.declared.Sort.{Sort}
use Rattle.totals.specs.declared.Sort.TheVariants.{Same, Diff, Shifted, Imm, Refused}
use Rattle.totals.specs.Totals.{family_sort, reading_sort, sort_of, column}
use Rattle.totals.specs.contracts.Sort.{the_type}

pub accepted-sort : {f : Family} {s : Sort} {i : Insn} (hw1 hw2 : ℕ) → f ≡ family_of hw1 hw2 → s ≡ family_sort f → reading hw1 hw2 0 ≡ accepted i → s ≡ sort_of hw1 hw2
unfolding sort_of reading_sort
accepted-sort hw1 hw2 e g h = rw (h, ← e) g

pub refused-sort : {n : ℕ} (hw1 hw2 : ℕ) → reading hw1 hw2 0 ≡ refused n → Refused ≡ sort_of hw1 hw2
unfolding sort_of reading_sort
refused-sort hw1 hw2 h = rw h

pub numbered : (s : Sort) → tag_of the_type s ≡ column s
unfolding column
numbered Same = refl
numbered Diff = refl
numbered Shifted = refl
numbered Imm = refl
numbered Refused = refl
