-- A step of each kind on the same rows, worked out by hand.
-- Assumes nothing.
use mathlib.Core.Path.{◌≡◌, refl}
use mathlib.Core.List.{[], ◌∷◌}
use Prim.Native.Nat.{ℕ, ◌+◌, ◌-◌, ◌*◌, ◌^◌}
use Rattle.laws.proofs.Range.{values}
use Rattle.arithmetic.specs.Whole.{read_as, greater, lesser, ones_if}
use Rattle.lanes.specs.Lane.{lanewise}
use Rattle.laws.specs.Signed.{twos_complement, modulo}
use Rattle.steps.specs.declared.Step.{Step}
use Rattle.steps.specs.Meaning.{each_lane, value_table, value_by}

-- lanes 0 and 1, of 8 bits
abbrev lanes : ℕ → ℕ → ℕ
lanes x y = x + 256 * y

-- a, b and c are rows 0, 1 and 2; an amount of 1; lanes are signed, so 240 is -16
abbrev step : Step
step = record { kind = 0; target = 3; a = 0; b = 1; c = 2; width = 0; amount = 1; sign = 1; low = 7; high = 1 }

sample :
    values (λ (k : ℕ). value_by k step (lanes 5 240 ∷ lanes 3 2 ∷ lanes 255 0 ∷ [])) 0 15
    ≡ (7 + 2 ^ 64)  -- 0 constant
    ∷ lanes 5 240  -- 1 copy
    ∷ lanes 8 242  -- 2 sum
    ∷ lanes 2 238  -- 3 difference
    ∷ lanes 15 224  -- 4 product
    ∷ lanes 1 0  -- 5 and
    ∷ lanes 7 242  -- 6 or
    ∷ lanes 6 242  -- 7 exclusive or
    ∷ (2 ^ 128 - 1 - lanes 5 240)  -- 8 not
    ∷ lanes 10 224  -- 9 left
    ∷ lanes 2 248  -- 10 right
    ∷ lanes 5 2  -- 11 greatest
    ∷ lanes 3 240  -- 12 least
    ∷ lanes 0 255  -- 13 mask
    ∷ lanes 5 2  -- 14 pick
    ∷ []
unfolding values value_by value_table each_lane lanewise read_as modulo greater lesser ones_if twos_complement
sample = refl
