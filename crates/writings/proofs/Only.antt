-- Which refusals an answer may have: a register is refused with 8 alone, a value that has no place with 9 alone.
-- Assumes nothing.
use mathlib.Core.Path.{◌≡◌, refl, ap}
use mathlib.Core.Bool.{Bool, true, false, not}
use Prim.Native.Nat.{ℕ, ◌*◌}
use lib.Dec.{ltb}
use Rattle.laws.specs.Answer.{Answer, accepted, refused}
use Rattle.laws.specs.Choice.{choose}
use Rattle.laws.specs.Search.{Found, at, none}
use Rattle.laws.proofs.Never.{never}
use Rattle.insn.specs.declared.Operand.{Operand}
use Rattle.insn.specs.declared.Operand.TheVariants.{D, Q, S, Imm, Float as Real, Other, Absent}
use Rattle.fields.specs.Registers.{bits, vec_bits}
use Rattle.writings.specs.Forms.{of_length, register_in}
use Rattle.writings.specs.Numbers.{or_nine}

-- if it is refused, it is with the number
abbrev pub RefusedOnly : ℕ → Answer ℕ → Type 0
RefusedOnly number (accepted d) = Unit {0}
RefusedOnly number (refused n) = n ≡ number

pub found-nine : (f : Found) → RefusedOnly 9 (or_nine f)
found-nine (at k) = tt
found-nine none = refl

-- and a place that is accepted was found
pub found_at : (f : Found) (t : ℕ) → or_nine f ≡ accepted t → f ≡ at t
found_at (at k) t e = ap at (cc)
found_at none t e = never (cc)

sized : (quad b q : Bool) (d : ℕ) → RefusedOnly 8 (of_length quad (choose b (accepted (bits q d)) (refused 8)))
sized quad true q d = go (choose quad q (not q))
  where
    go : (b : Bool) → RefusedOnly 8 (choose b (accepted d) (refused 8))
    go true = tt
    go false = refl
sized quad false q d = refl

pub register-eight : (quad : Bool) (o : Operand) → RefusedOnly 8 (register_in quad o)
unfolding register_in vec_bits
register-eight quad (D n) = sized quad (ltb n 32) false n
register-eight quad (Q n) = sized quad (ltb n 16) true (2 * n)
register-eight quad (S n) = refl
register-eight quad (Imm v) = refl
register-eight quad (Real x) = refl
register-eight quad Other = refl
register-eight quad Absent = refl
