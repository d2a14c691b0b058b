-- One pair for 64 bits: the lowest modified immediate, by op, then cmode, then imm8, that is read as a VMOV or a VMVN and leaves them in a D register.
-- Assumes nothing.
use Rattle.std.specs.Prelude.{Bool, false, not, ℕ, ◌-◌, ◌^◌, eqb}
use Prim.Native.String.{String, slice}
use lib.Text.{eqt}
use Rattle.laws.specs.Answer.{Answer, accepted, refused}
use Rattle.laws.specs.Choice.{choose, both, either}
use Rattle.laws.specs.Search.{Found, first_below}
use Rattle.tables.specs.Cells.{cell_at}
use Rattle.immediate_tables.specs.Modimm.{modimm}
use Rattle.fields.specs.Halfwords.{bit, field}
use Rattle.immediates.specs.Modified.{expand_imm, zero_refused}

-- the first four letters of a name
abbrev pub begins : String → String → Bool
begins name four = eqt (slice name 0 4) four

-- a name of VMOV, vmov.f32 among them, or of VMVN
abbrev pub setting : String → Bool
setting name = either (begins name "vmov") (begins name "vmvn")

-- what it leaves of a 64-bit pattern: VMVN leaves the complement
abbrev pub leaves : String → ℕ → ℕ
leaves name p = choose (begins name "vmvn") (2 ^ 64 - 1 - p) p

-- whether that is v; where there is no pattern, nothing is left
abbrev pub is_left : String → Answer ℕ → ℕ → Bool
is_left name (accepted p) v = eqb (leaves name p) v
is_left name (refused n) v = false

-- whether op, cmode and imm8 are read as such a name, and leave v; a blank cell's name does not begin so
unfoldable pub is_one : ℕ → ℕ → ℕ → ℕ → Bool
is_one v op cmode imm8 =
    both (setting (cell_at modimm op cmode))
    (both (not (zero_refused cmode imm8))
    (is_left (cell_at modimm op cmode) (expand_imm op cmode imm8) v))

-- the place op:cmode:imm8, as a number below 8192, leaves v
abbrev pub one_at : ℕ → ℕ → Bool
one_at v t = is_one v (bit 12 t) (field 11 8 t) (field 7 0 t)

-- the lowest place that does
unfoldable pub one_for : ℕ → Found
one_for v = first_below 8192 (one_at v)
