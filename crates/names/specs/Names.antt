-- The mnemonics and their numbers.
-- Assumes nothing.
use Rattle.std.specs.Prelude.{Bool, true, false, List, [], ◌∷◌, ℕ, suc, get_or}
use Prim.Native.Char.{code}
use Prim.Native.String.{String, slice, [] as nil, ◌∷◌ as cons}
use lib.Text.{eqt}
use Rattle.laws.specs.Choice.{choose}

-- the mnemonics, each at its number from 0: the cells of the tables by first appearance (NamesInOrder of tables)
unfoldable pub names : List String
names =
    "vhadd.s8" ∷ "vhadd.s16" ∷ "vhadd.s32" ∷ "vqadd.s8" ∷  -- 0
    "vqadd.s16" ∷ "vqadd.s32" ∷ "vqadd.s64" ∷ "vrhadd.s8" ∷  -- 4
    "vrhadd.s16" ∷ "vrhadd.s32" ∷ "vand" ∷ "vbic" ∷  -- 8
    "vorr" ∷ "vorn" ∷ "vhsub.s8" ∷ "vhsub.s16" ∷  -- 12
    "vhsub.s32" ∷ "vqsub.s8" ∷ "vqsub.s16" ∷ "vqsub.s32" ∷  -- 16
    "vqsub.s64" ∷ "vcgt.s8" ∷ "vcgt.s16" ∷ "vcgt.s32" ∷  -- 20
    "vcge.s8" ∷ "vcge.s16" ∷ "vcge.s32" ∷ "vshl.s8" ∷  -- 24
    "vshl.s16" ∷ "vshl.s32" ∷ "vshl.s64" ∷ "vqshl.s8" ∷  -- 28
    "vqshl.s16" ∷ "vqshl.s32" ∷ "vqshl.s64" ∷ "vrshl.s8" ∷  -- 32
    "vrshl.s16" ∷ "vrshl.s32" ∷ "vrshl.s64" ∷ "vqrshl.s8" ∷  -- 36
    "vqrshl.s16" ∷ "vqrshl.s32" ∷ "vqrshl.s64" ∷ "vmax.s8" ∷  -- 40
    "vmax.s16" ∷ "vmax.s32" ∷ "vmin.s8" ∷ "vmin.s16" ∷  -- 44
    "vmin.s32" ∷ "vabd.s8" ∷ "vabd.s16" ∷ "vabd.s32" ∷  -- 48
    "vaba.s8" ∷ "vaba.s16" ∷ "vaba.s32" ∷ "vadd.i8" ∷  -- 52
    "vadd.i16" ∷ "vadd.i32" ∷ "vadd.i64" ∷ "vtst.8" ∷  -- 56
    "vtst.16" ∷ "vtst.32" ∷ "vmla.i8" ∷ "vmla.i16" ∷  -- 60
    "vmla.i32" ∷ "vmul.i8" ∷ "vmul.i16" ∷ "vmul.i32" ∷  -- 64
    "vpmax.s8" ∷ "vpmax.s16" ∷ "vpmax.s32" ∷ "vpmin.s8" ∷  -- 68
    "vpmin.s16" ∷ "vpmin.s32" ∷ "vqdmulh.s16" ∷ "vqdmulh.s32" ∷  -- 72
    "vpadd.i8" ∷ "vpadd.i16" ∷ "vpadd.i32" ∷ "vfma.f32" ∷  -- 76
    "vfms.f32" ∷ "vadd.f32" ∷ "vsub.f32" ∷ "vmla.f32" ∷  -- 80
    "vmls.f32" ∷ "vceq.f32" ∷ "vmax.f32" ∷ "vmin.f32" ∷  -- 84
    "vrecps.f32" ∷ "vrsqrts.f32" ∷ "vhadd.u8" ∷ "vhadd.u16" ∷  -- 88
    "vhadd.u32" ∷ "vqadd.u8" ∷ "vqadd.u16" ∷ "vqadd.u32" ∷  -- 92
    "vqadd.u64" ∷ "vrhadd.u8" ∷ "vrhadd.u16" ∷ "vrhadd.u32" ∷  -- 96
    "veor" ∷ "vbsl" ∷ "vbit" ∷ "vbif" ∷  -- 100
    "vhsub.u8" ∷ "vhsub.u16" ∷ "vhsub.u32" ∷ "vqsub.u8" ∷  -- 104
    "vqsub.u16" ∷ "vqsub.u32" ∷ "vqsub.u64" ∷ "vcgt.u8" ∷  -- 108
    "vcgt.u16" ∷ "vcgt.u32" ∷ "vcge.u8" ∷ "vcge.u16" ∷  -- 112
    "vcge.u32" ∷ "vshl.u8" ∷ "vshl.u16" ∷ "vshl.u32" ∷  -- 116
    "vshl.u64" ∷ "vqshl.u8" ∷ "vqshl.u16" ∷ "vqshl.u32" ∷  -- 120
    "vqshl.u64" ∷ "vrshl.u8" ∷ "vrshl.u16" ∷ "vrshl.u32" ∷  -- 124
    "vrshl.u64" ∷ "vqrshl.u8" ∷ "vqrshl.u16" ∷ "vqrshl.u32" ∷  -- 128
    "vqrshl.u64" ∷ "vmax.u8" ∷ "vmax.u16" ∷ "vmax.u32" ∷  -- 132
    "vmin.u8" ∷ "vmin.u16" ∷ "vmin.u32" ∷ "vabd.u8" ∷  -- 136
    "vabd.u16" ∷ "vabd.u32" ∷ "vaba.u8" ∷ "vaba.u16" ∷  -- 140
    "vaba.u32" ∷ "vsub.i8" ∷ "vsub.i16" ∷ "vsub.i32" ∷  -- 144
    "vsub.i64" ∷ "vceq.i8" ∷ "vceq.i16" ∷ "vceq.i32" ∷  -- 148
    "vmls.i8" ∷ "vmls.i16" ∷ "vmls.i32" ∷ "vmul.p8" ∷  -- 152
    "vpmax.u8" ∷ "vpmax.u16" ∷ "vpmax.u32" ∷ "vpmin.u8" ∷  -- 156
    "vpmin.u16" ∷ "vpmin.u32" ∷ "vqrdmulh.s16" ∷ "vqrdmulh.s32" ∷  -- 160
    "vpadd.f32" ∷ "vabd.f32" ∷ "vmul.f32" ∷ "vcge.f32" ∷  -- 164
    "vcgt.f32" ∷ "vacge.f32" ∷ "vacgt.f32" ∷ "vpmax.f32" ∷  -- 168
    "vpmin.f32" ∷ "vshr.s8" ∷ "vshr.s16" ∷ "vshr.s32" ∷  -- 172
    "vshr.s64" ∷ "vsra.s8" ∷ "vsra.s16" ∷ "vsra.s32" ∷  -- 176
    "vsra.s64" ∷ "vrshr.s8" ∷ "vrshr.s16" ∷ "vrshr.s32" ∷  -- 180
    "vrshr.s64" ∷ "vrsra.s8" ∷ "vrsra.s16" ∷ "vrsra.s32" ∷  -- 184
    "vrsra.s64" ∷ "vshl.i8" ∷ "vshl.i16" ∷ "vshl.i32" ∷  -- 188
    "vshl.i64" ∷ "vshrn.i16" ∷ "vshrn.i32" ∷ "vshrn.i64" ∷  -- 192
    "vrshrn.i16" ∷ "vrshrn.i32" ∷ "vrshrn.i64" ∷ "vqshrn.s16" ∷  -- 196
    "vqshrn.s32" ∷ "vqshrn.s64" ∷ "vqrshrn.s16" ∷ "vqrshrn.s32" ∷  -- 200
    "vqrshrn.s64" ∷ "vshll.s8" ∷ "vshll.s16" ∷ "vshll.s32" ∷  -- 204
    "vcvt.f32.s32" ∷ "vcvt.s32.f32" ∷ "vshr.u8" ∷ "vshr.u16" ∷  -- 208
    "vshr.u32" ∷ "vshr.u64" ∷ "vsra.u8" ∷ "vsra.u16" ∷  -- 212
    "vsra.u32" ∷ "vsra.u64" ∷ "vrshr.u8" ∷ "vrshr.u16" ∷  -- 216
    "vrshr.u32" ∷ "vrshr.u64" ∷ "vrsra.u8" ∷ "vrsra.u16" ∷  -- 220
    "vrsra.u32" ∷ "vrsra.u64" ∷ "vsri.8" ∷ "vsri.16" ∷  -- 224
    "vsri.32" ∷ "vsri.64" ∷ "vsli.8" ∷ "vsli.16" ∷  -- 228
    "vsli.32" ∷ "vsli.64" ∷ "vqshlu.s8" ∷ "vqshlu.s16" ∷  -- 232
    "vqshlu.s32" ∷ "vqshlu.s64" ∷ "vqshrun.s16" ∷ "vqshrun.s32" ∷  -- 236
    "vqshrun.s64" ∷ "vqrshrun.s16" ∷ "vqrshrun.s32" ∷ "vqrshrun.s64" ∷  -- 240
    "vqshrn.u16" ∷ "vqshrn.u32" ∷ "vqshrn.u64" ∷ "vqrshrn.u16" ∷  -- 244
    "vqrshrn.u32" ∷ "vqrshrn.u64" ∷ "vshll.u8" ∷ "vshll.u16" ∷  -- 248
    "vshll.u32" ∷ "vcvt.f32.u32" ∷ "vcvt.u32.f32" ∷ "vmovl.s8" ∷  -- 252
    "vmovl.s16" ∷ "vmovl.s32" ∷ "vmovl.u8" ∷ "vmovl.u16" ∷  -- 256
    "vmovl.u32" ∷ "vmov.i32" ∷ "vorr.i32" ∷ "vmov.i16" ∷  -- 260
    "vorr.i16" ∷ "vmov.i8" ∷ "vmov.f32" ∷ "vmvn.i32" ∷  -- 264
    "vbic.i32" ∷ "vmvn.i16" ∷ "vbic.i16" ∷ "vmov.i64" ∷  -- 268
    "vaddl.s8" ∷ "vaddl.s16" ∷ "vaddl.s32" ∷ "vaddw.s8" ∷  -- 272
    "vaddw.s16" ∷ "vaddw.s32" ∷ "vsubl.s8" ∷ "vsubl.s16" ∷  -- 276
    "vsubl.s32" ∷ "vsubw.s8" ∷ "vsubw.s16" ∷ "vsubw.s32" ∷  -- 280
    "vaddhn.i16" ∷ "vaddhn.i32" ∷ "vaddhn.i64" ∷ "vabal.s8" ∷  -- 284
    "vabal.s16" ∷ "vabal.s32" ∷ "vsubhn.i16" ∷ "vsubhn.i32" ∷  -- 288
    "vsubhn.i64" ∷ "vabdl.s8" ∷ "vabdl.s16" ∷ "vabdl.s32" ∷  -- 292
    "vmlal.s8" ∷ "vmlal.s16" ∷ "vmlal.s32" ∷ "vqdmlal.s16" ∷  -- 296
    "vqdmlal.s32" ∷ "vmlsl.s8" ∷ "vmlsl.s16" ∷ "vmlsl.s32" ∷  -- 300
    "vqdmlsl.s16" ∷ "vqdmlsl.s32" ∷ "vmull.s8" ∷ "vmull.s16" ∷  -- 304
    "vmull.s32" ∷ "vqdmull.s16" ∷ "vqdmull.s32" ∷ "vmull.p8" ∷  -- 308
    "vaddl.u8" ∷ "vaddl.u16" ∷ "vaddl.u32" ∷ "vaddw.u8" ∷  -- 312
    "vaddw.u16" ∷ "vaddw.u32" ∷ "vsubl.u8" ∷ "vsubl.u16" ∷  -- 316
    "vsubl.u32" ∷ "vsubw.u8" ∷ "vsubw.u16" ∷ "vsubw.u32" ∷  -- 320
    "vraddhn.i16" ∷ "vraddhn.i32" ∷ "vraddhn.i64" ∷ "vabal.u8" ∷  -- 324
    "vabal.u16" ∷ "vabal.u32" ∷ "vrsubhn.i16" ∷ "vrsubhn.i32" ∷  -- 328
    "vrsubhn.i64" ∷ "vabdl.u8" ∷ "vabdl.u16" ∷ "vabdl.u32" ∷  -- 332
    "vmlal.u8" ∷ "vmlal.u16" ∷ "vmlal.u32" ∷ "vmlsl.u8" ∷  -- 336
    "vmlsl.u16" ∷ "vmlsl.u32" ∷ "vmull.u8" ∷ "vmull.u16" ∷  -- 340
    "vmull.u32" ∷ "vmov" ∷  -- 344
    []

-- a number that is no mnemonic's: it stands for a blank cell
abbrev pub blank : ℕ
blank = 65535

abbrev pub place : String → ℕ → List String → ℕ
place s n [] = blank
place s n (x ∷ xs) = let rest = place s (suc n) xs in choose (eqt x s) n rest

-- the number of a mnemonic; `blank` for a text that is none
unfoldable pub number_of : String → ℕ
number_of s = place s 0 names

-- the mnemonic of a number; "" for a number that has none
unfoldable pub name_of : ℕ → String
name_of m = get_or names m ""

-- the bytes of a text
unfoldable pub codes : String → List ℕ
codes nil = []
codes (cons c s) = code c ∷ codes s

-- a pairwise mnemonic, which has no quad form: its spelling begins with vp
unfoldable pub pairwise : String → Bool
pairwise s = eqt (slice s 0 2) "vp"

-- whether a text is one of a list's
abbrev pub member : String → List String → Bool
member s [] = false
member s (x ∷ xs) = choose (eqt x s) true (member s xs)
