-- The form of each mnemonic by its number, which antt computes once from the table of names.
-- Assumes nothing.
use mathlib.Core.Path.{◌≡◌, refl, sym, ap, ◌∙◌}
use mathlib.Core.Bool.{Bool, true, false}
use mathlib.Core.List.{List, [], ◌∷◌}
use Prim.Native.Nat.{ℕ, suc, ◌-◌, ◌<◌, ◌≤◌}
use native.Mathlib.Omega.{arith}
use lib.Dec.{ltb}
use lib.ListN.{length, get_or, get_or-eq_default}
use borrow.Author.Tests.{ltb-true, ltb-false}
use Rattle.laws.proofs.Range.{values, agree, agree-from}
use Rattle.names.specs.Names.{names, name_of}
use Rattle.names.proofs.Spellings.{no_name}
use Rattle.lanes.specs.declared.LaneOp.TheVariants.{Add, Sub, Mul, Mla, Mls, Max, Min, Cgt, Cge, Ceq, Tst, Saturating, Halving}
use Rattle.saturating.specs.declared.SaturatingOp.TheVariants.{Qadd, Qsub}
use Rattle.halving.specs.declared.HalvingOp.TheVariants.{Hadd, Rhadd, Hsub}
use Rattle.insn.specs.declared.Sign.TheVariants.{Unsigned, Signed}
use Rattle.insn.specs.declared.Width.TheVariants.{B8, B16, B32, B64}
use Rattle.double_lanes.specs.declared.LongOp.TheVariants as long
use Rattle.double_lanes.specs.declared.WideOp.TheVariants as wide
use Rattle.double_lanes.specs.declared.NarrowOp.TheVariants as narrow
use Rattle.double_lanes.specs.declared.DoubleOp.TheVariants.{Long, Wide, Narrow}
use Rattle.operations.specs.declared.BitOp.TheVariants.{And, Orr, Eor, Bic, Orn, Bsl, Bit, Bif}
use Rattle.operations.specs.declared.ConstantOp.TheVariants as constant
use Rattle.forms.specs.declared.Direction.TheVariants as way
use Rattle.forms.specs.declared.Form.{Form}
use Rattle.forms.specs.declared.Form.TheVariants.{Lanes, Bits, Copy, Shift, Double, Extend, Number, Float, Nothing}
use Rattle.forms.specs.Forms.{groups, named_forms, form_of}

unfoldable pub numbered : List Form
numbered =
    Lanes (Halving Hadd Signed) B8 ∷ Lanes (Halving Hadd Signed) B16 ∷ Lanes (Halving Hadd Signed) B32 ∷  -- 0
    Lanes (Saturating Qadd Signed) B8 ∷ Lanes (Saturating Qadd Signed) B16 ∷ Lanes (Saturating Qadd Signed) B32 ∷ Lanes (Saturating Qadd Signed) B64 ∷  -- 3
    Lanes (Halving Rhadd Signed) B8 ∷ Lanes (Halving Rhadd Signed) B16 ∷ Lanes (Halving Rhadd Signed) B32 ∷  -- 7
    Bits And ∷ Bits Bic ∷ Bits Orr ∷ Bits Orn ∷  -- 10
    Lanes (Halving Hsub Signed) B8 ∷ Lanes (Halving Hsub Signed) B16 ∷ Lanes (Halving Hsub Signed) B32 ∷  -- 14
    Lanes (Saturating Qsub Signed) B8 ∷ Lanes (Saturating Qsub Signed) B16 ∷ Lanes (Saturating Qsub Signed) B32 ∷ Lanes (Saturating Qsub Signed) B64 ∷  -- 17
    Lanes (Cgt Signed) B8 ∷ Lanes (Cgt Signed) B16 ∷ Lanes (Cgt Signed) B32 ∷  -- 21
    Lanes (Cge Signed) B8 ∷ Lanes (Cge Signed) B16 ∷ Lanes (Cge Signed) B32 ∷  -- 24
    Nothing ∷ Nothing ∷ Nothing ∷ Nothing ∷ Nothing ∷ Nothing ∷ Nothing ∷ Nothing ∷ Nothing ∷ Nothing ∷ Nothing ∷ Nothing ∷  -- 27
    Nothing ∷ Nothing ∷ Nothing ∷ Nothing ∷  -- 39
    Lanes (Max Signed) B8 ∷ Lanes (Max Signed) B16 ∷ Lanes (Max Signed) B32 ∷  -- 43
    Lanes (Min Signed) B8 ∷ Lanes (Min Signed) B16 ∷ Lanes (Min Signed) B32 ∷  -- 46
    Nothing ∷ Nothing ∷ Nothing ∷ Nothing ∷ Nothing ∷ Nothing ∷  -- 49
    Lanes Add B8 ∷ Lanes Add B16 ∷ Lanes Add B32 ∷ Lanes Add B64 ∷  -- 55
    Lanes Tst B8 ∷ Lanes Tst B16 ∷ Lanes Tst B32 ∷  -- 59
    Lanes Mla B8 ∷ Lanes Mla B16 ∷ Lanes Mla B32 ∷  -- 62
    Lanes Mul B8 ∷ Lanes Mul B16 ∷ Lanes Mul B32 ∷  -- 65
    Nothing ∷ Nothing ∷ Nothing ∷ Nothing ∷ Nothing ∷ Nothing ∷ Nothing ∷ Nothing ∷ Nothing ∷ Nothing ∷ Nothing ∷ Nothing ∷  -- 68
    Nothing ∷ Nothing ∷ Nothing ∷ Nothing ∷ Nothing ∷ Nothing ∷ Nothing ∷ Nothing ∷ Nothing ∷ Nothing ∷  -- 80
    Lanes (Halving Hadd Unsigned) B8 ∷ Lanes (Halving Hadd Unsigned) B16 ∷ Lanes (Halving Hadd Unsigned) B32 ∷  -- 90
    Lanes (Saturating Qadd Unsigned) B8 ∷ Lanes (Saturating Qadd Unsigned) B16 ∷ Lanes (Saturating Qadd Unsigned) B32 ∷ Lanes (Saturating Qadd Unsigned) B64 ∷  -- 93
    Lanes (Halving Rhadd Unsigned) B8 ∷ Lanes (Halving Rhadd Unsigned) B16 ∷ Lanes (Halving Rhadd Unsigned) B32 ∷  -- 97
    Bits Eor ∷ Bits Bsl ∷ Bits Bit ∷ Bits Bif ∷  -- 100
    Lanes (Halving Hsub Unsigned) B8 ∷ Lanes (Halving Hsub Unsigned) B16 ∷ Lanes (Halving Hsub Unsigned) B32 ∷  -- 104
    Lanes (Saturating Qsub Unsigned) B8 ∷ Lanes (Saturating Qsub Unsigned) B16 ∷ Lanes (Saturating Qsub Unsigned) B32 ∷ Lanes (Saturating Qsub Unsigned) B64 ∷  -- 107
    Lanes (Cgt Unsigned) B8 ∷ Lanes (Cgt Unsigned) B16 ∷ Lanes (Cgt Unsigned) B32 ∷  -- 111
    Lanes (Cge Unsigned) B8 ∷ Lanes (Cge Unsigned) B16 ∷ Lanes (Cge Unsigned) B32 ∷  -- 114
    Nothing ∷ Nothing ∷ Nothing ∷ Nothing ∷ Nothing ∷ Nothing ∷ Nothing ∷ Nothing ∷ Nothing ∷ Nothing ∷ Nothing ∷ Nothing ∷  -- 117
    Nothing ∷ Nothing ∷ Nothing ∷ Nothing ∷  -- 129
    Lanes (Max Unsigned) B8 ∷ Lanes (Max Unsigned) B16 ∷ Lanes (Max Unsigned) B32 ∷  -- 133
    Lanes (Min Unsigned) B8 ∷ Lanes (Min Unsigned) B16 ∷ Lanes (Min Unsigned) B32 ∷  -- 136
    Nothing ∷ Nothing ∷ Nothing ∷ Nothing ∷ Nothing ∷ Nothing ∷  -- 139
    Lanes Sub B8 ∷ Lanes Sub B16 ∷ Lanes Sub B32 ∷ Lanes Sub B64 ∷  -- 145
    Lanes Ceq B8 ∷ Lanes Ceq B16 ∷ Lanes Ceq B32 ∷  -- 149
    Lanes Mls B8 ∷ Lanes Mls B16 ∷ Lanes Mls B32 ∷  -- 152
    Nothing ∷ Nothing ∷ Nothing ∷ Nothing ∷ Nothing ∷ Nothing ∷ Nothing ∷ Nothing ∷ Nothing ∷ Nothing ∷ Nothing ∷ Nothing ∷  -- 155
    Nothing ∷ Nothing ∷ Nothing ∷ Nothing ∷ Nothing ∷ Nothing ∷  -- 167
    Shift (way.Right Signed) B8 ∷ Shift (way.Right Signed) B16 ∷ Shift (way.Right Signed) B32 ∷ Shift (way.Right Signed) B64 ∷  -- 173
    Nothing ∷ Nothing ∷ Nothing ∷ Nothing ∷ Nothing ∷ Nothing ∷ Nothing ∷ Nothing ∷ Nothing ∷ Nothing ∷ Nothing ∷ Nothing ∷  -- 177
    Shift way.Left B8 ∷ Shift way.Left B16 ∷ Shift way.Left B32 ∷ Shift way.Left B64 ∷  -- 189
    Shift way.Narrow B8 ∷ Shift way.Narrow B16 ∷ Shift way.Narrow B32 ∷  -- 193
    Nothing ∷ Nothing ∷ Nothing ∷ Nothing ∷ Nothing ∷ Nothing ∷ Nothing ∷ Nothing ∷ Nothing ∷  -- 196
    Shift (way.Long Signed) B8 ∷ Shift (way.Long Signed) B16 ∷ Shift (way.Long Signed) B32 ∷  -- 205
    Nothing ∷ Nothing ∷  -- 208
    Shift (way.Right Unsigned) B8 ∷ Shift (way.Right Unsigned) B16 ∷ Shift (way.Right Unsigned) B32 ∷ Shift (way.Right Unsigned) B64 ∷  -- 210
    Nothing ∷ Nothing ∷ Nothing ∷ Nothing ∷ Nothing ∷ Nothing ∷ Nothing ∷ Nothing ∷ Nothing ∷ Nothing ∷ Nothing ∷ Nothing ∷  -- 214
    Nothing ∷ Nothing ∷ Nothing ∷ Nothing ∷ Nothing ∷ Nothing ∷ Nothing ∷ Nothing ∷ Nothing ∷ Nothing ∷ Nothing ∷ Nothing ∷  -- 226
    Nothing ∷ Nothing ∷ Nothing ∷ Nothing ∷ Nothing ∷ Nothing ∷ Nothing ∷ Nothing ∷ Nothing ∷ Nothing ∷ Nothing ∷ Nothing ∷  -- 238
    Shift (way.Long Unsigned) B8 ∷ Shift (way.Long Unsigned) B16 ∷ Shift (way.Long Unsigned) B32 ∷  -- 250
    Nothing ∷ Nothing ∷  -- 253
    Extend Signed B8 ∷ Extend Signed B16 ∷ Extend Signed B32 ∷  -- 255
    Extend Unsigned B8 ∷ Extend Unsigned B16 ∷ Extend Unsigned B32 ∷  -- 258
    Number constant.Mov B32 ∷  -- 261
    Number constant.Orr B32 ∷  -- 262
    Number constant.Mov B16 ∷  -- 263
    Number constant.Orr B16 ∷  -- 264
    Number constant.Mov B8 ∷  -- 265
    Float ∷  -- 266
    Number constant.Mvn B32 ∷  -- 267
    Number constant.Bic B32 ∷  -- 268
    Number constant.Mvn B16 ∷  -- 269
    Number constant.Bic B16 ∷  -- 270
    Number constant.Mov B64 ∷  -- 271
    Double (Long long.Add Signed) B8 ∷ Double (Long long.Add Signed) B16 ∷ Double (Long long.Add Signed) B32 ∷  -- 272
    Double (Wide wide.Add Signed) B8 ∷ Double (Wide wide.Add Signed) B16 ∷ Double (Wide wide.Add Signed) B32 ∷  -- 275
    Double (Long long.Sub Signed) B8 ∷ Double (Long long.Sub Signed) B16 ∷ Double (Long long.Sub Signed) B32 ∷  -- 278
    Double (Wide wide.Sub Signed) B8 ∷ Double (Wide wide.Sub Signed) B16 ∷ Double (Wide wide.Sub Signed) B32 ∷  -- 281
    Double (Narrow narrow.Add) B8 ∷ Double (Narrow narrow.Add) B16 ∷ Double (Narrow narrow.Add) B32 ∷  -- 284
    Nothing ∷ Nothing ∷ Nothing ∷  -- 287
    Double (Narrow narrow.Sub) B8 ∷ Double (Narrow narrow.Sub) B16 ∷ Double (Narrow narrow.Sub) B32 ∷  -- 290
    Nothing ∷ Nothing ∷ Nothing ∷  -- 293
    Double (Long long.Mla Signed) B8 ∷ Double (Long long.Mla Signed) B16 ∷ Double (Long long.Mla Signed) B32 ∷  -- 296
    Nothing ∷ Nothing ∷  -- 299
    Double (Long long.Mls Signed) B8 ∷ Double (Long long.Mls Signed) B16 ∷ Double (Long long.Mls Signed) B32 ∷  -- 301
    Nothing ∷ Nothing ∷  -- 304
    Double (Long long.Mul Signed) B8 ∷ Double (Long long.Mul Signed) B16 ∷ Double (Long long.Mul Signed) B32 ∷  -- 306
    Nothing ∷ Nothing ∷ Nothing ∷  -- 309
    Double (Long long.Add Unsigned) B8 ∷ Double (Long long.Add Unsigned) B16 ∷ Double (Long long.Add Unsigned) B32 ∷  -- 312
    Double (Wide wide.Add Unsigned) B8 ∷ Double (Wide wide.Add Unsigned) B16 ∷ Double (Wide wide.Add Unsigned) B32 ∷  -- 315
    Double (Long long.Sub Unsigned) B8 ∷ Double (Long long.Sub Unsigned) B16 ∷ Double (Long long.Sub Unsigned) B32 ∷  -- 318
    Double (Wide wide.Sub Unsigned) B8 ∷ Double (Wide wide.Sub Unsigned) B16 ∷ Double (Wide wide.Sub Unsigned) B32 ∷  -- 321
    Nothing ∷ Nothing ∷ Nothing ∷ Nothing ∷ Nothing ∷ Nothing ∷ Nothing ∷ Nothing ∷ Nothing ∷ Nothing ∷ Nothing ∷ Nothing ∷  -- 324
    Double (Long long.Mla Unsigned) B8 ∷ Double (Long long.Mla Unsigned) B16 ∷ Double (Long long.Mla Unsigned) B32 ∷  -- 336
    Double (Long long.Mls Unsigned) B8 ∷ Double (Long long.Mls Unsigned) B16 ∷ Double (Long long.Mls Unsigned) B32 ∷  -- 339
    Double (Long long.Mul Unsigned) B8 ∷ Double (Long long.Mul Unsigned) B16 ∷ Double (Long long.Mul Unsigned) B32 ∷  -- 342
    Copy ∷  -- 345
    []

unfoldable pub form_at : ℕ → Form
form_at m = get_or numbered m Nothing

computed : (m : ℕ) → m < 346 → form_of (name_of m) ≡ form_at m
unfolding values names name_of groups named_forms form_of numbered form_at
computed = agree (λ (m : ℕ). form_of (name_of m)) form_at 346 refl

pub blank : form_of "" ≡ Nothing
unfolding groups named_forms form_of
blank = refl

size : length numbered ≡ 346
unfolding numbered
size = refl

past : (m : ℕ) → 346 ≤ m → form_at m ≡ Nothing
unfolding form_at
past m h = get_or-eq_default numbered Nothing (rw size h)

-- the form of a mnemonic number, also of one that is none
pub form-at : (m : ℕ) → form_of (name_of m) ≡ form_at m
form-at m = go (ltb m 346) refl
  where
    go : (b : Bool) → ltb m 346 ≡ b → form_of (name_of m) ≡ form_at m
    go true e = computed m (ltb-true m 346 e)
    go false e = let h = ltb-false m 346 e in ap form_of (no_name m h) ∙ blank ∙ sym (past m h)

-- the mnemonics from lo on below hi
pub stretch : (f : ℕ → Form) {lo hi m : ℕ} → lo ≤ m → m < hi → values f lo (hi - lo) ≡ values form_at lo (hi - lo) → f m ≡ form_of (name_of m)
stretch f {lo} {hi} {m} h k e = agree-from f form_at lo (hi - lo) e m h (omega arith) ∙ sym (form-at m)

-- one mnemonic
pub one : {f : Form} (k : ℕ) → f ≡ form_at k → {m : ℕ} → m ≡ k → f ≡ form_of (name_of m)
one k e {m} h = e ∙ ap form_at (sym h) ∙ sym (form-at m)

-- a number from n on that is not n
pub above : {n m : ℕ} → n ≤ m → (m ≡ n → ⊥) → suc n ≤ m
above h k = omega arith

-- past the last name there is none
pub no_more : (m : ℕ) → 345 ≤ m → (m ≡ 345 → ⊥) → Nothing ≡ form_of (name_of m)
no_more m h k = sym (form-at m ∙ past m (omega arith))
