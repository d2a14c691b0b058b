-- Promises beyond the contract; proofs/Promises.antt proves each under its name. What pairs do stands in crate halves.
-- Assumes nothing.
use Rattle.std.specs.Prelude.{Bool, false, ◌≡◌, ℕ, zero, suc, ◌+◌, eqb}
use Prim.Native.String.{String}
use Rattle.laws.specs.Answer.{Answer, accepted, refused}
use Rattle.laws.specs.Choice.{choose}
use Rattle.laws.specs.Search.{Found, at, none}
use Rattle.tables.specs.Cells.{cell_at}
use Rattle.immediate_tables.specs.Modimm.{modimm}
use Rattle.fields.specs.Halfwords.{bit, field}
use Rattle.immediates.specs.Modified.{expand_imm}
use Rattle.one_pair.specs.One.{leaves, one_for}

-- zero, all ones, ffffff00 twice, the float 1 twice, the lowest byte of ones, and one that has none
abbrev pub WorkedPlaces : Type 0
WorkedPlaces =
    (one_for 0 ≡ at 0x0000)  -- vmov.i32 #0
    × (one_for 0xffff_ffff_ffff_ffff ≡ at 0x0eff)  -- vmov.i8 #255
    × (one_for 0xffff_ff00_ffff_ff00 ≡ at 0x10ff)  -- vmvn.i32 #255
    × (one_for 0x3f80_0000_3f80_0000 ≡ at 0x0f70)  -- vmov.f32 #1.0
    × (one_for 0xff ≡ at 0x1e01)  -- vmov.i64 #255
    × (one_for 1 ≡ none)

-- what the place t leaves, if it sets; a place that does not is never found
abbrev pub left_by : String → Answer ℕ → ℕ
left_by name (accepted p) = leaves name p
left_by name (refused n) = 0

abbrev pub left_at : ℕ → ℕ
left_at t = left_by (cell_at modimm (bit 12 t) (field 11 8 t)) (expand_imm (bit 12 t) (field 11 8 t) (field 7 0 t))

-- t was found
abbrev pub is_at : ℕ → Found → Bool
is_at t (at u) = eqb u t
is_at t none = false

-- how many of the numbers below n pass
unfoldable pub count_below : ℕ → (ℕ → Bool) → ℕ
count_below zero p = 0
count_below (suc n) p = choose (p n) 1 0 + count_below n p

-- so many numbers have one pair: of the 8192 places 4822 are the lowest for what they leave
abbrev pub HowMany : Type 0
HowMany = count_below 8192 (λ (t : ℕ). is_at t (one_for (left_at t))) ≡ 4822
