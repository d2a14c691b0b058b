-- The first where the test holds, else the second.
-- Assumes nothing.
use Rattle.std.specs.Prelude.{Bool, true, false, ◌&&◌, ◌||◌}

abbrev pub choose : {A : Type 0} → Bool → A → A → A
choose true a b = a
choose false a b = b

-- both tests hold
abbrev pub both : Bool → Bool → Bool
both a b = a && b

-- one of them holds, or both
abbrev pub either : Bool → Bool → Bool
either a b = a || b
