-- Promises beyond the contracts; proofs/Promises.antt proves each under its name.
-- Assumes nothing.
use Rattle.std.specs.Prelude.{Bool, true, false, ◌≡◌, ℕ}
use Rattle.laws.specs.Answer.{Answer, accepted, refused}
use Rattle.insn.specs.declared.Insn.{Insn}
use Rattle.decode.specs.Reading.{reading}
use Rattle.totals.specs.declared.Sort.TheVariants.{Refused}
use Rattle.totals.specs.Totals.{sort_of, is_sort}

-- whether a reading is a refusal
abbrev pub is_refused : Answer Insn → Bool
is_refused (accepted i) = false
is_refused (refused n) = true

-- a pair is counted as refused exactly if it is refused
abbrev pub RefusedCounted : Type 0
RefusedCounted = (hw1 hw2 : ℕ) → is_sort Refused (sort_of hw1 hw2) ≡ is_refused (reading hw1 hw2 0)
