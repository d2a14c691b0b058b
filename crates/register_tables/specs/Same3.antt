-- Table A7-9, three registers of the same length: SAME3 in the source.
-- A row for each U:opc:B, which are hw1 bit 12, hw2 bits 11..8 and hw2 bit 4; a column for each size, hw1 bits 5..4.
-- Assumes nothing.
use Rattle.std.specs.Prelude.{List, [], ◌∷◌}
use Prim.Native.String.{String}
use Rattle.tables.specs.Cells.{by_size}

unfoldable pub same3 : List (List String)
same3 =
    by_size "vhadd.s8" "vhadd.s16" "vhadd.s32" "" ∷  -- U=0 opc=0000 B=0
    by_size "vqadd.s8" "vqadd.s16" "vqadd.s32" "vqadd.s64" ∷  -- U=0 opc=0000 B=1
    by_size "vrhadd.s8" "vrhadd.s16" "vrhadd.s32" "" ∷  -- U=0 opc=0001 B=0
    by_size "vand" "vbic" "vorr" "vorn" ∷  -- U=0 opc=0001 B=1
    by_size "vhsub.s8" "vhsub.s16" "vhsub.s32" "" ∷  -- U=0 opc=0010 B=0
    by_size "vqsub.s8" "vqsub.s16" "vqsub.s32" "vqsub.s64" ∷  -- U=0 opc=0010 B=1
    by_size "vcgt.s8" "vcgt.s16" "vcgt.s32" "" ∷  -- U=0 opc=0011 B=0
    by_size "vcge.s8" "vcge.s16" "vcge.s32" "" ∷  -- U=0 opc=0011 B=1
    by_size "vshl.s8" "vshl.s16" "vshl.s32" "vshl.s64" ∷  -- U=0 opc=0100 B=0
    by_size "vqshl.s8" "vqshl.s16" "vqshl.s32" "vqshl.s64" ∷  -- U=0 opc=0100 B=1
    by_size "vrshl.s8" "vrshl.s16" "vrshl.s32" "vrshl.s64" ∷  -- U=0 opc=0101 B=0
    by_size "vqrshl.s8" "vqrshl.s16" "vqrshl.s32" "vqrshl.s64" ∷  -- U=0 opc=0101 B=1
    by_size "vmax.s8" "vmax.s16" "vmax.s32" "" ∷  -- U=0 opc=0110 B=0
    by_size "vmin.s8" "vmin.s16" "vmin.s32" "" ∷  -- U=0 opc=0110 B=1
    by_size "vabd.s8" "vabd.s16" "vabd.s32" "" ∷  -- U=0 opc=0111 B=0
    by_size "vaba.s8" "vaba.s16" "vaba.s32" "" ∷  -- U=0 opc=0111 B=1
    by_size "vadd.i8" "vadd.i16" "vadd.i32" "vadd.i64" ∷  -- U=0 opc=1000 B=0
    by_size "vtst.8" "vtst.16" "vtst.32" "" ∷  -- U=0 opc=1000 B=1
    by_size "vmla.i8" "vmla.i16" "vmla.i32" "" ∷  -- U=0 opc=1001 B=0
    by_size "vmul.i8" "vmul.i16" "vmul.i32" "" ∷  -- U=0 opc=1001 B=1
    by_size "vpmax.s8" "vpmax.s16" "vpmax.s32" "" ∷  -- U=0 opc=1010 B=0
    by_size "vpmin.s8" "vpmin.s16" "vpmin.s32" "" ∷  -- U=0 opc=1010 B=1
    by_size "" "vqdmulh.s16" "vqdmulh.s32" "" ∷  -- U=0 opc=1011 B=0
    by_size "vpadd.i8" "vpadd.i16" "vpadd.i32" "" ∷  -- U=0 opc=1011 B=1
    by_size "" "" "" "" ∷  -- U=0 opc=1100 B=0
    by_size "vfma.f32" "" "vfms.f32" "" ∷  -- U=0 opc=1100 B=1
    by_size "vadd.f32" "" "vsub.f32" "" ∷  -- U=0 opc=1101 B=0
    by_size "vmla.f32" "" "vmls.f32" "" ∷  -- U=0 opc=1101 B=1
    by_size "vceq.f32" "" "" "" ∷  -- U=0 opc=1110 B=0
    by_size "" "" "" "" ∷  -- U=0 opc=1110 B=1
    by_size "vmax.f32" "" "vmin.f32" "" ∷  -- U=0 opc=1111 B=0
    by_size "vrecps.f32" "" "vrsqrts.f32" "" ∷  -- U=0 opc=1111 B=1
    by_size "vhadd.u8" "vhadd.u16" "vhadd.u32" "" ∷  -- U=1 opc=0000 B=0
    by_size "vqadd.u8" "vqadd.u16" "vqadd.u32" "vqadd.u64" ∷  -- U=1 opc=0000 B=1
    by_size "vrhadd.u8" "vrhadd.u16" "vrhadd.u32" "" ∷  -- U=1 opc=0001 B=0
    by_size "veor" "vbsl" "vbit" "vbif" ∷  -- U=1 opc=0001 B=1
    by_size "vhsub.u8" "vhsub.u16" "vhsub.u32" "" ∷  -- U=1 opc=0010 B=0
    by_size "vqsub.u8" "vqsub.u16" "vqsub.u32" "vqsub.u64" ∷  -- U=1 opc=0010 B=1
    by_size "vcgt.u8" "vcgt.u16" "vcgt.u32" "" ∷  -- U=1 opc=0011 B=0
    by_size "vcge.u8" "vcge.u16" "vcge.u32" "" ∷  -- U=1 opc=0011 B=1
    by_size "vshl.u8" "vshl.u16" "vshl.u32" "vshl.u64" ∷  -- U=1 opc=0100 B=0
    by_size "vqshl.u8" "vqshl.u16" "vqshl.u32" "vqshl.u64" ∷  -- U=1 opc=0100 B=1
    by_size "vrshl.u8" "vrshl.u16" "vrshl.u32" "vrshl.u64" ∷  -- U=1 opc=0101 B=0
    by_size "vqrshl.u8" "vqrshl.u16" "vqrshl.u32" "vqrshl.u64" ∷  -- U=1 opc=0101 B=1
    by_size "vmax.u8" "vmax.u16" "vmax.u32" "" ∷  -- U=1 opc=0110 B=0
    by_size "vmin.u8" "vmin.u16" "vmin.u32" "" ∷  -- U=1 opc=0110 B=1
    by_size "vabd.u8" "vabd.u16" "vabd.u32" "" ∷  -- U=1 opc=0111 B=0
    by_size "vaba.u8" "vaba.u16" "vaba.u32" "" ∷  -- U=1 opc=0111 B=1
    by_size "vsub.i8" "vsub.i16" "vsub.i32" "vsub.i64" ∷  -- U=1 opc=1000 B=0
    by_size "vceq.i8" "vceq.i16" "vceq.i32" "" ∷  -- U=1 opc=1000 B=1
    by_size "vmls.i8" "vmls.i16" "vmls.i32" "" ∷  -- U=1 opc=1001 B=0
    by_size "vmul.p8" "" "" "" ∷  -- U=1 opc=1001 B=1
    by_size "vpmax.u8" "vpmax.u16" "vpmax.u32" "" ∷  -- U=1 opc=1010 B=0
    by_size "vpmin.u8" "vpmin.u16" "vpmin.u32" "" ∷  -- U=1 opc=1010 B=1
    by_size "" "vqrdmulh.s16" "vqrdmulh.s32" "" ∷  -- U=1 opc=1011 B=0
    by_size "" "" "" "" ∷  -- U=1 opc=1011 B=1
    by_size "" "" "" "" ∷  -- U=1 opc=1100 B=0
    by_size "" "" "" "" ∷  -- U=1 opc=1100 B=1
    by_size "vpadd.f32" "" "vabd.f32" "" ∷  -- U=1 opc=1101 B=0
    by_size "vmul.f32" "" "" "" ∷  -- U=1 opc=1101 B=1
    by_size "vcge.f32" "" "vcgt.f32" "" ∷  -- U=1 opc=1110 B=0
    by_size "vacge.f32" "" "vacgt.f32" "" ∷  -- U=1 opc=1110 B=1
    by_size "vpmax.f32" "" "vpmin.f32" "" ∷  -- U=1 opc=1111 B=0
    by_size "" "" "" "" ∷  -- U=1 opc=1111 B=1
    []
