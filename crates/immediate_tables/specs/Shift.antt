-- Table A7-12, two registers and a shift amount: SHIFT_ROWS in the source.
-- A row for each U:A:B, which are hw1 bit 12, hw2 bits 11..8 and hw2 bit 6; a column for each element size, 8 to 64 bits.
-- Assumes nothing.
use Rattle.std.specs.Prelude.{List, [], ◌∷◌, map}
use Prim.Native.String.{String}
use Rattle.tables.specs.Cells.{by_size}
use Rattle.tables.specs.declared.ShiftClass.{ShiftClass}
use Rattle.tables.specs.declared.ShiftClass.TheVariants.{Right, Left, Narrow, Long, Convert}

-- a row, and how its amounts are read: a narrowing row's columns are its result's sizes, and a conversion has one column
pub record ShiftRow : Type 0 where
  pub class : ShiftClass
  pub cells : List String

abbrev shift : ShiftClass → String → String → String → String → ShiftRow
shift k a b c d = record { class = k; cells = by_size a b c d }

unfoldable pub shift_rows : List ShiftRow
shift_rows =
    shift Right "vshr.s8" "vshr.s16" "vshr.s32" "vshr.s64" ∷  -- U=0 A=0000 B=0
    shift Right "vshr.s8" "vshr.s16" "vshr.s32" "vshr.s64" ∷  -- U=0 A=0000 B=1
    shift Right "vsra.s8" "vsra.s16" "vsra.s32" "vsra.s64" ∷  -- U=0 A=0001 B=0
    shift Right "vsra.s8" "vsra.s16" "vsra.s32" "vsra.s64" ∷  -- U=0 A=0001 B=1
    shift Right "vrshr.s8" "vrshr.s16" "vrshr.s32" "vrshr.s64" ∷  -- U=0 A=0010 B=0
    shift Right "vrshr.s8" "vrshr.s16" "vrshr.s32" "vrshr.s64" ∷  -- U=0 A=0010 B=1
    shift Right "vrsra.s8" "vrsra.s16" "vrsra.s32" "vrsra.s64" ∷  -- U=0 A=0011 B=0
    shift Right "vrsra.s8" "vrsra.s16" "vrsra.s32" "vrsra.s64" ∷  -- U=0 A=0011 B=1
    shift Right "" "" "" "" ∷  -- U=0 A=0100 B=0
    shift Right "" "" "" "" ∷  -- U=0 A=0100 B=1
    shift Left "vshl.i8" "vshl.i16" "vshl.i32" "vshl.i64" ∷  -- U=0 A=0101 B=0
    shift Left "vshl.i8" "vshl.i16" "vshl.i32" "vshl.i64" ∷  -- U=0 A=0101 B=1
    shift Right "" "" "" "" ∷  -- U=0 A=0110 B=0
    shift Right "" "" "" "" ∷  -- U=0 A=0110 B=1
    shift Left "vqshl.s8" "vqshl.s16" "vqshl.s32" "vqshl.s64" ∷  -- U=0 A=0111 B=0
    shift Left "vqshl.s8" "vqshl.s16" "vqshl.s32" "vqshl.s64" ∷  -- U=0 A=0111 B=1
    shift Narrow "vshrn.i16" "vshrn.i32" "vshrn.i64" "" ∷  -- U=0 A=1000 B=0
    shift Narrow "vrshrn.i16" "vrshrn.i32" "vrshrn.i64" "" ∷  -- U=0 A=1000 B=1
    shift Narrow "vqshrn.s16" "vqshrn.s32" "vqshrn.s64" "" ∷  -- U=0 A=1001 B=0
    shift Narrow "vqrshrn.s16" "vqrshrn.s32" "vqrshrn.s64" "" ∷  -- U=0 A=1001 B=1
    shift Long "vshll.s8" "vshll.s16" "vshll.s32" "" ∷  -- U=0 A=1010 B=0
    shift Right "" "" "" "" ∷  -- U=0 A=1010 B=1
    shift Right "" "" "" "" ∷  -- U=0 A=1011 B=0
    shift Right "" "" "" "" ∷  -- U=0 A=1011 B=1
    shift Right "" "" "" "" ∷  -- U=0 A=1100 B=0
    shift Right "" "" "" "" ∷  -- U=0 A=1100 B=1
    shift Right "" "" "" "" ∷  -- U=0 A=1101 B=0
    shift Right "" "" "" "" ∷  -- U=0 A=1101 B=1
    shift Convert "vcvt.f32.s32" "" "" "" ∷  -- U=0 A=1110 B=0
    shift Convert "vcvt.f32.s32" "" "" "" ∷  -- U=0 A=1110 B=1
    shift Convert "vcvt.s32.f32" "" "" "" ∷  -- U=0 A=1111 B=0
    shift Convert "vcvt.s32.f32" "" "" "" ∷  -- U=0 A=1111 B=1
    shift Right "vshr.u8" "vshr.u16" "vshr.u32" "vshr.u64" ∷  -- U=1 A=0000 B=0
    shift Right "vshr.u8" "vshr.u16" "vshr.u32" "vshr.u64" ∷  -- U=1 A=0000 B=1
    shift Right "vsra.u8" "vsra.u16" "vsra.u32" "vsra.u64" ∷  -- U=1 A=0001 B=0
    shift Right "vsra.u8" "vsra.u16" "vsra.u32" "vsra.u64" ∷  -- U=1 A=0001 B=1
    shift Right "vrshr.u8" "vrshr.u16" "vrshr.u32" "vrshr.u64" ∷  -- U=1 A=0010 B=0
    shift Right "vrshr.u8" "vrshr.u16" "vrshr.u32" "vrshr.u64" ∷  -- U=1 A=0010 B=1
    shift Right "vrsra.u8" "vrsra.u16" "vrsra.u32" "vrsra.u64" ∷  -- U=1 A=0011 B=0
    shift Right "vrsra.u8" "vrsra.u16" "vrsra.u32" "vrsra.u64" ∷  -- U=1 A=0011 B=1
    shift Right "vsri.8" "vsri.16" "vsri.32" "vsri.64" ∷  -- U=1 A=0100 B=0
    shift Right "vsri.8" "vsri.16" "vsri.32" "vsri.64" ∷  -- U=1 A=0100 B=1
    shift Left "vsli.8" "vsli.16" "vsli.32" "vsli.64" ∷  -- U=1 A=0101 B=0
    shift Left "vsli.8" "vsli.16" "vsli.32" "vsli.64" ∷  -- U=1 A=0101 B=1
    shift Left "vqshlu.s8" "vqshlu.s16" "vqshlu.s32" "vqshlu.s64" ∷  -- U=1 A=0110 B=0
    shift Left "vqshlu.s8" "vqshlu.s16" "vqshlu.s32" "vqshlu.s64" ∷  -- U=1 A=0110 B=1
    shift Left "vqshl.u8" "vqshl.u16" "vqshl.u32" "vqshl.u64" ∷  -- U=1 A=0111 B=0
    shift Left "vqshl.u8" "vqshl.u16" "vqshl.u32" "vqshl.u64" ∷  -- U=1 A=0111 B=1
    shift Narrow "vqshrun.s16" "vqshrun.s32" "vqshrun.s64" "" ∷  -- U=1 A=1000 B=0
    shift Narrow "vqrshrun.s16" "vqrshrun.s32" "vqrshrun.s64" "" ∷  -- U=1 A=1000 B=1
    shift Narrow "vqshrn.u16" "vqshrn.u32" "vqshrn.u64" "" ∷  -- U=1 A=1001 B=0
    shift Narrow "vqrshrn.u16" "vqrshrn.u32" "vqrshrn.u64" "" ∷  -- U=1 A=1001 B=1
    shift Long "vshll.u8" "vshll.u16" "vshll.u32" "" ∷  -- U=1 A=1010 B=0
    shift Right "" "" "" "" ∷  -- U=1 A=1010 B=1
    shift Right "" "" "" "" ∷  -- U=1 A=1011 B=0
    shift Right "" "" "" "" ∷  -- U=1 A=1011 B=1
    shift Right "" "" "" "" ∷  -- U=1 A=1100 B=0
    shift Right "" "" "" "" ∷  -- U=1 A=1100 B=1
    shift Right "" "" "" "" ∷  -- U=1 A=1101 B=0
    shift Right "" "" "" "" ∷  -- U=1 A=1101 B=1
    shift Convert "vcvt.f32.u32" "" "" "" ∷  -- U=1 A=1110 B=0
    shift Convert "vcvt.f32.u32" "" "" "" ∷  -- U=1 A=1110 B=1
    shift Convert "vcvt.u32.f32" "" "" "" ∷  -- U=1 A=1111 B=0
    shift Convert "vcvt.u32.f32" "" "" "" ∷  -- U=1 A=1111 B=1
    []

unfoldable pub shift_cells : List (List String)
shift_cells = map (λ (r : ShiftRow). r.cells) shift_rows

unfoldable pub shift_classes : List ShiftClass
shift_classes = map (λ (r : ShiftRow). r.class) shift_rows

-- what VSHLL by 0 is called, by U and the element size: VMOVL_NAMES in the source
unfoldable pub vmovl : List (List String)
vmovl =
    by_size "vmovl.s8" "vmovl.s16" "vmovl.s32" "" ∷  -- U=0
    by_size "vmovl.u8" "vmovl.u16" "vmovl.u32" "" ∷  -- U=1
    []
