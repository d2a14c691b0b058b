-- Promises beyond the contract; proofs/Promises.antt proves each under its name.
-- Assumes nothing.
use Rattle.std.specs.Prelude.{true, ◌≡◌, ℕ, ◌<◌, Float, ℤ}
use Prim.Native.String.{String}
use Rattle.std.specs.Float.{binary64}
use Rattle.std.specs.Float.Ieee.{fits}
use Rattle.insn.specs.declared.Operand.TheVariants.{Imm, Float as Real}
use Rattle.fields.specs.Halfwords.{bit, field}
use Rattle.immediate_values.specs.Immediates.{immediate_reads}

-- at most one op:cmode:imm8 is read as a name and a number, or a name and a float of 64 bits
abbrev pub ImmediateOnce : Type 0
ImmediateOnce =
    (name : String) (v : ℤ) (t u : ℕ) → t < 8192 → u < 8192
    → immediate_reads name (Imm v) (bit 12 t) (field 11 8 t) (field 7 0 t) ≡ true
    → immediate_reads name (Imm v) (bit 12 u) (field 11 8 u) (field 7 0 u) ≡ true → t ≡ u

abbrev pub FloatImmediateOnce : Type 0
FloatImmediateOnce =
    (name : String) (x : Float) (t u : ℕ) → fits binary64 x ≡ true → t < 8192 → u < 8192
    → immediate_reads name (Real x) (bit 12 t) (field 11 8 t) (field 7 0 t) ≡ true
    → immediate_reads name (Real x) (bit 12 u) (field 11 8 u) (field 7 0 u) ≡ true → t ≡ u
