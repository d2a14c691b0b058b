-- The names that have a meaning: document 01, 'Register machine', and document 02, F-5 and F-1. Every other name has none.
-- Assumes nothing.
use Rattle.std.specs.Prelude.{List, [], ◌∷◌, ◌++◌}
use Prim.Native.String.{String}
use lib.Text.{eqt}
use Rattle.laws.specs.Choice.{choose}
use Rattle.lanes.specs.declared.LaneOp.TheVariants.{Add, Sub, Mul, Mla, Mls, Max, Min, Cgt, Cge, Ceq, Tst, Saturating, Halving}
use Rattle.saturating.specs.declared.SaturatingOp.TheVariants.{Qadd, Qsub}
use Rattle.halving.specs.declared.HalvingOp.TheVariants.{Hadd, Rhadd, Hsub}
use Rattle.insn.specs.declared.Sign.TheVariants.{Unsigned, Signed}
use Rattle.insn.specs.declared.Width.{Width}
use Rattle.insn.specs.declared.Width.TheVariants.{B8, B16, B32, B64}
use Rattle.double_lanes.specs.declared.LongOp.TheVariants as long
use Rattle.double_lanes.specs.declared.WideOp.TheVariants as wide
use Rattle.double_lanes.specs.declared.NarrowOp.TheVariants as narrow
use Rattle.double_lanes.specs.declared.DoubleOp.TheVariants.{Long, Wide, Narrow}
use Rattle.operations.specs.declared.BitOp.TheVariants.{And, Orr, Eor, Bic, Orn, Bsl, Bit, Bif}
use Rattle.operations.specs.declared.ConstantOp.TheVariants as constant
use Rattle.forms.specs.declared.Direction.TheVariants as way
use Rattle.forms.specs.declared.Form.{Form}
use Rattle.forms.specs.declared.Form.TheVariants.{Lanes, Bits, Copy, Shift, Double, Extend, Number, Float, Nothing}

-- a name and its form
pub record NamedForm : Type 0 where
  pub name : String
  pub form : Form

abbrev only : String → Form → List NamedForm
only s f = record { name = s; form = f } ∷ []

-- one form at each width, 8 to 32 bits, or 8 to 64; a narrow name spells 2w, the width of its sources
abbrev to32 : (Width → Form) → String → String → String → List NamedForm
to32 f a b c = only a (f B8) ++ (only b (f B16) ++ only c (f B32))

abbrev to64 : (Width → Form) → String → String → String → String → List NamedForm
to64 f a b c d = to32 f a b c ++ only d (f B64)

unfoldable pub groups : List (List NamedForm)
groups =
    only "vand" (Bits And) ∷
    only "vorr" (Bits Orr) ∷
    only "veor" (Bits Eor) ∷
    only "vbic" (Bits Bic) ∷
    only "vorn" (Bits Orn) ∷
    only "vbsl" (Bits Bsl) ∷
    only "vbit" (Bits Bit) ∷
    only "vbif" (Bits Bif) ∷
    only "vmov" Copy ∷
    to64 (Lanes Add) "vadd.i8" "vadd.i16" "vadd.i32" "vadd.i64" ∷
    to64 (Lanes Sub) "vsub.i8" "vsub.i16" "vsub.i32" "vsub.i64" ∷
    to32 (Lanes Mul) "vmul.i8" "vmul.i16" "vmul.i32" ∷
    to32 (Lanes Mla) "vmla.i8" "vmla.i16" "vmla.i32" ∷
    to32 (Lanes Mls) "vmls.i8" "vmls.i16" "vmls.i32" ∷
    to32 (Lanes (Max Signed)) "vmax.s8" "vmax.s16" "vmax.s32" ∷
    to32 (Lanes (Max Unsigned)) "vmax.u8" "vmax.u16" "vmax.u32" ∷
    to32 (Lanes (Min Signed)) "vmin.s8" "vmin.s16" "vmin.s32" ∷
    to32 (Lanes (Min Unsigned)) "vmin.u8" "vmin.u16" "vmin.u32" ∷
    to32 (Lanes (Cgt Signed)) "vcgt.s8" "vcgt.s16" "vcgt.s32" ∷
    to32 (Lanes (Cgt Unsigned)) "vcgt.u8" "vcgt.u16" "vcgt.u32" ∷
    to32 (Lanes (Cge Signed)) "vcge.s8" "vcge.s16" "vcge.s32" ∷
    to32 (Lanes (Cge Unsigned)) "vcge.u8" "vcge.u16" "vcge.u32" ∷
    to32 (Lanes Ceq) "vceq.i8" "vceq.i16" "vceq.i32" ∷
    to32 (Lanes Tst) "vtst.8" "vtst.16" "vtst.32" ∷
    to64 (Lanes (Saturating Qadd Signed)) "vqadd.s8" "vqadd.s16" "vqadd.s32" "vqadd.s64" ∷
    to64 (Lanes (Saturating Qadd Unsigned)) "vqadd.u8" "vqadd.u16" "vqadd.u32" "vqadd.u64" ∷
    to64 (Lanes (Saturating Qsub Signed)) "vqsub.s8" "vqsub.s16" "vqsub.s32" "vqsub.s64" ∷
    to64 (Lanes (Saturating Qsub Unsigned)) "vqsub.u8" "vqsub.u16" "vqsub.u32" "vqsub.u64" ∷
    to32 (Lanes (Halving Hadd Signed)) "vhadd.s8" "vhadd.s16" "vhadd.s32" ∷
    to32 (Lanes (Halving Hadd Unsigned)) "vhadd.u8" "vhadd.u16" "vhadd.u32" ∷
    to32 (Lanes (Halving Rhadd Signed)) "vrhadd.s8" "vrhadd.s16" "vrhadd.s32" ∷
    to32 (Lanes (Halving Rhadd Unsigned)) "vrhadd.u8" "vrhadd.u16" "vrhadd.u32" ∷
    to32 (Lanes (Halving Hsub Signed)) "vhsub.s8" "vhsub.s16" "vhsub.s32" ∷
    to32 (Lanes (Halving Hsub Unsigned)) "vhsub.u8" "vhsub.u16" "vhsub.u32" ∷
    to64 (Shift way.Left) "vshl.i8" "vshl.i16" "vshl.i32" "vshl.i64" ∷
    to64 (Shift (way.Right Unsigned)) "vshr.u8" "vshr.u16" "vshr.u32" "vshr.u64" ∷
    to64 (Shift (way.Right Signed)) "vshr.s8" "vshr.s16" "vshr.s32" "vshr.s64" ∷
    to32 (Double (Long long.Add Signed)) "vaddl.s8" "vaddl.s16" "vaddl.s32" ∷
    to32 (Double (Long long.Add Unsigned)) "vaddl.u8" "vaddl.u16" "vaddl.u32" ∷
    to32 (Double (Long long.Sub Signed)) "vsubl.s8" "vsubl.s16" "vsubl.s32" ∷
    to32 (Double (Long long.Sub Unsigned)) "vsubl.u8" "vsubl.u16" "vsubl.u32" ∷
    to32 (Double (Long long.Mul Signed)) "vmull.s8" "vmull.s16" "vmull.s32" ∷
    to32 (Double (Long long.Mul Unsigned)) "vmull.u8" "vmull.u16" "vmull.u32" ∷
    to32 (Double (Long long.Mla Signed)) "vmlal.s8" "vmlal.s16" "vmlal.s32" ∷
    to32 (Double (Long long.Mla Unsigned)) "vmlal.u8" "vmlal.u16" "vmlal.u32" ∷
    to32 (Double (Long long.Mls Signed)) "vmlsl.s8" "vmlsl.s16" "vmlsl.s32" ∷
    to32 (Double (Long long.Mls Unsigned)) "vmlsl.u8" "vmlsl.u16" "vmlsl.u32" ∷
    to32 (Double (Wide wide.Add Signed)) "vaddw.s8" "vaddw.s16" "vaddw.s32" ∷
    to32 (Double (Wide wide.Add Unsigned)) "vaddw.u8" "vaddw.u16" "vaddw.u32" ∷
    to32 (Double (Wide wide.Sub Signed)) "vsubw.s8" "vsubw.s16" "vsubw.s32" ∷
    to32 (Double (Wide wide.Sub Unsigned)) "vsubw.u8" "vsubw.u16" "vsubw.u32" ∷
    to32 (Double (Narrow narrow.Add)) "vaddhn.i16" "vaddhn.i32" "vaddhn.i64" ∷
    to32 (Double (Narrow narrow.Sub)) "vsubhn.i16" "vsubhn.i32" "vsubhn.i64" ∷
    to32 (Extend Signed) "vmovl.s8" "vmovl.s16" "vmovl.s32" ∷
    to32 (Extend Unsigned) "vmovl.u8" "vmovl.u16" "vmovl.u32" ∷
    to32 (Shift (way.Long Signed)) "vshll.s8" "vshll.s16" "vshll.s32" ∷
    to32 (Shift (way.Long Unsigned)) "vshll.u8" "vshll.u16" "vshll.u32" ∷
    to32 (Shift way.Narrow) "vshrn.i16" "vshrn.i32" "vshrn.i64" ∷
    to64 (Number constant.Mov) "vmov.i8" "vmov.i16" "vmov.i32" "vmov.i64" ∷
    only "vmvn.i16" (Number constant.Mvn B16) ∷
    only "vmvn.i32" (Number constant.Mvn B32) ∷
    only "vorr.i16" (Number constant.Orr B16) ∷
    only "vorr.i32" (Number constant.Orr B32) ∷
    only "vbic.i16" (Number constant.Bic B16) ∷
    only "vbic.i32" (Number constant.Bic B32) ∷
    only "vmov.f32" Float ∷
    []

abbrev joined : List (List NamedForm) → List NamedForm
joined [] = []
joined (g ∷ gs) = g ++ joined gs

unfoldable pub named_forms : List NamedForm
named_forms = joined groups

abbrev pub form_in : String → List NamedForm → Form
form_in s [] = Nothing
form_in s (x ∷ xs) = let rest = form_in s xs in choose (eqt x.name s) x.form rest

-- the form of a name
unfoldable pub form_of : String → Form
form_of s = form_in s named_forms
