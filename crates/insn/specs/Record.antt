-- What a record holds at each place.
-- Assumes nothing.
use Rattle.std.specs.Prelude.{[], ◌∷◌, ℕ, ltb, ℤ, Float, get_or}
use Rattle.laws.specs.Choice.{choose}
use Rattle.insn.specs.declared.Operand.{Operand}
use Rattle.insn.specs.declared.Operand.TheVariants.{D, Q, S, Imm, Float as Real, Other, Absent}
use Rattle.insn.specs.declared.Insn.{Insn}

-- the operand at place k, counted from 0: absent past the count, and past the three places that there are
unfoldable pub place_at : Insn → ℕ → Operand
place_at i k = choose (ltb k i.count) (get_or (i.first ∷ i.second ∷ i.third ∷ []) k Absent) Absent

-- f of a whole number, g of a float, and z for any other operand
abbrev pub value_or : {A : Type 0} → (ℤ → A) → (Float → A) → A → Operand → A
value_or f g z (Imm v) = f v
value_or f g z (Real x) = g x
value_or f g z (D n) = z
value_or f g z (Q n) = z
value_or f g z (S n) = z
value_or f g z Other = z
value_or f g z Absent = z
