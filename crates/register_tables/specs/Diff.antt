-- Table A7-10, three registers of different lengths: DIFF_ROWS in the source.
-- A row for each U:A, which are hw1 bit 12 and hw2 bits 11..8; a column for each size, hw1 bits 5..4.
-- Assumes nothing.
use Rattle.std.specs.Prelude.{List, [], ◌∷◌, map}
use Prim.Native.String.{String}
use Rattle.insn.specs.declared.Mark.{Mark}
use Rattle.insn.specs.declared.Mark.TheVariants.{T1, T2}
use Rattle.tables.specs.Cells.{by_size}
use Rattle.tables.specs.declared.DiffShape.{DiffShape}
use Rattle.tables.specs.declared.DiffShape.TheVariants.{Long, Wide, Narrow}

-- a row, the shape of its operands, and the manual's name of its encoding
pub record DiffRow : Type 0 where
  pub shape : DiffShape
  pub mark : Mark
  pub cells : List String

abbrev diff : DiffShape → Mark → String → String → String → String → DiffRow
diff s m a b c d = record { shape = s; mark = m; cells = by_size a b c d }

unfoldable pub diff_rows : List DiffRow
diff_rows =
    diff Long T1 "vaddl.s8" "vaddl.s16" "vaddl.s32" "" ∷  -- U=0 A=0000
    diff Wide T1 "vaddw.s8" "vaddw.s16" "vaddw.s32" "" ∷  -- U=0 A=0001
    diff Long T1 "vsubl.s8" "vsubl.s16" "vsubl.s32" "" ∷  -- U=0 A=0010
    diff Wide T1 "vsubw.s8" "vsubw.s16" "vsubw.s32" "" ∷  -- U=0 A=0011
    diff Narrow T1 "vaddhn.i16" "vaddhn.i32" "vaddhn.i64" "" ∷  -- U=0 A=0100
    diff Long T2 "vabal.s8" "vabal.s16" "vabal.s32" "" ∷  -- U=0 A=0101
    diff Narrow T1 "vsubhn.i16" "vsubhn.i32" "vsubhn.i64" "" ∷  -- U=0 A=0110
    diff Long T2 "vabdl.s8" "vabdl.s16" "vabdl.s32" "" ∷  -- U=0 A=0111
    diff Long T2 "vmlal.s8" "vmlal.s16" "vmlal.s32" "" ∷  -- U=0 A=1000
    diff Long T1 "" "vqdmlal.s16" "vqdmlal.s32" "" ∷  -- U=0 A=1001
    diff Long T2 "vmlsl.s8" "vmlsl.s16" "vmlsl.s32" "" ∷  -- U=0 A=1010
    diff Long T1 "" "vqdmlsl.s16" "vqdmlsl.s32" "" ∷  -- U=0 A=1011
    diff Long T2 "vmull.s8" "vmull.s16" "vmull.s32" "" ∷  -- U=0 A=1100
    diff Long T1 "" "vqdmull.s16" "vqdmull.s32" "" ∷  -- U=0 A=1101
    diff Long T2 "vmull.p8" "" "" "" ∷  -- U=0 A=1110
    diff Long T1 "" "" "" "" ∷  -- U=0 A=1111
    diff Long T1 "vaddl.u8" "vaddl.u16" "vaddl.u32" "" ∷  -- U=1 A=0000
    diff Wide T1 "vaddw.u8" "vaddw.u16" "vaddw.u32" "" ∷  -- U=1 A=0001
    diff Long T1 "vsubl.u8" "vsubl.u16" "vsubl.u32" "" ∷  -- U=1 A=0010
    diff Wide T1 "vsubw.u8" "vsubw.u16" "vsubw.u32" "" ∷  -- U=1 A=0011
    diff Narrow T1 "vraddhn.i16" "vraddhn.i32" "vraddhn.i64" "" ∷  -- U=1 A=0100
    diff Long T2 "vabal.u8" "vabal.u16" "vabal.u32" "" ∷  -- U=1 A=0101
    diff Narrow T1 "vrsubhn.i16" "vrsubhn.i32" "vrsubhn.i64" "" ∷  -- U=1 A=0110
    diff Long T2 "vabdl.u8" "vabdl.u16" "vabdl.u32" "" ∷  -- U=1 A=0111
    diff Long T2 "vmlal.u8" "vmlal.u16" "vmlal.u32" "" ∷  -- U=1 A=1000
    diff Long T1 "" "" "" "" ∷  -- U=1 A=1001
    diff Long T2 "vmlsl.u8" "vmlsl.u16" "vmlsl.u32" "" ∷  -- U=1 A=1010
    diff Long T1 "" "" "" "" ∷  -- U=1 A=1011
    diff Long T2 "vmull.u8" "vmull.u16" "vmull.u32" "" ∷  -- U=1 A=1100
    diff Long T1 "" "" "" "" ∷  -- U=1 A=1101
    diff Long T1 "" "" "" "" ∷  -- U=1 A=1110
    diff Long T1 "" "" "" "" ∷  -- U=1 A=1111
    []

unfoldable pub diff_cells : List (List String)
diff_cells = map (λ (r : DiffRow). r.cells) diff_rows

unfoldable pub diff_shapes : List DiffShape
diff_shapes = map (λ (r : DiffRow). r.shape) diff_rows

unfoldable pub diff_marks : List Mark
diff_marks = map (λ (r : DiffRow). r.mark) diff_rows
