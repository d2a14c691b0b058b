-- Table A7-14, one register and a modified immediate: MODIMM_NAMES in the source.
-- A row for each op, hw2 bit 5; a column for each cmode, hw2 bits 11..8.
-- Assumes nothing.
use Rattle.std.specs.Prelude.{List, [], ◌∷◌}
use Prim.Native.String.{String}

unfoldable pub modimm : List (List String)
modimm =
    ("vmov.i32" ∷  -- op=0 cmode=0000
    "vorr.i32" ∷  -- op=0 cmode=0001
    "vmov.i32" ∷  -- op=0 cmode=0010
    "vorr.i32" ∷  -- op=0 cmode=0011
    "vmov.i32" ∷  -- op=0 cmode=0100
    "vorr.i32" ∷  -- op=0 cmode=0101
    "vmov.i32" ∷  -- op=0 cmode=0110
    "vorr.i32" ∷  -- op=0 cmode=0111
    "vmov.i16" ∷  -- op=0 cmode=1000
    "vorr.i16" ∷  -- op=0 cmode=1001
    "vmov.i16" ∷  -- op=0 cmode=1010
    "vorr.i16" ∷  -- op=0 cmode=1011
    "vmov.i32" ∷  -- op=0 cmode=1100
    "vmov.i32" ∷  -- op=0 cmode=1101
    "vmov.i8" ∷  -- op=0 cmode=1110
    "vmov.f32" ∷  -- op=0 cmode=1111
    []) ∷
    ("vmvn.i32" ∷  -- op=1 cmode=0000
    "vbic.i32" ∷  -- op=1 cmode=0001
    "vmvn.i32" ∷  -- op=1 cmode=0010
    "vbic.i32" ∷  -- op=1 cmode=0011
    "vmvn.i32" ∷  -- op=1 cmode=0100
    "vbic.i32" ∷  -- op=1 cmode=0101
    "vmvn.i32" ∷  -- op=1 cmode=0110
    "vbic.i32" ∷  -- op=1 cmode=0111
    "vmvn.i16" ∷  -- op=1 cmode=1000
    "vbic.i16" ∷  -- op=1 cmode=1001
    "vmvn.i16" ∷  -- op=1 cmode=1010
    "vbic.i16" ∷  -- op=1 cmode=1011
    "vmvn.i32" ∷  -- op=1 cmode=1100
    "vmvn.i32" ∷  -- op=1 cmode=1101
    "vmov.i64" ∷  -- op=1 cmode=1110
    "" ∷  -- op=1 cmode=1111
    []) ∷
    []
