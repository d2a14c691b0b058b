use mathlib.Core.Path.{◌∙◌}
use Rattle.tables.specs.declared.ShiftClass.TheVariants.{Right, Left, Narrow, Long, Convert}
use Rattle.insn.specs.declared.Width.TheVariants.{B8, B64}
use Rattle.amount_values.proofs.Amounts.{width-place, narrow-place, long-place, convert-none}
use Rattle.amount_values.proofs.amount_place.Goals as goal

pub returns-in-Right : goal.returns-in-Right
returns-in-Right c = rw c.in-Right.is (c.counted_down.ensures ∙ width-place Right _ _ c.requires)

pub returns-in-Left : goal.returns-in-Left
returns-in-Left c = rw c.in-Left.is (c.counted_up.ensures ∙ width-place Left _ _ c.requires)

pub returns-in-B64 : goal.returns-in-B64
returns-in-B64 c = rw (c.in-Narrow.is, c.in-B64.is) (width-place Narrow B64 _ c.requires)

pub returns-in_default : goal.returns-in_default
returns-in_default c =
    rw c.in-Narrow.is (c.counted_down-in_default.ensures ∙ narrow-place _ _ c.requires c.in_default.not-B64)

pub returns-in-B64-width : goal.returns-in-B64-width
returns-in-B64-width c = rw (c.in-Long.is, c.in-B64-width.is) (width-place Long B64 _ c.requires)

pub returns-in_default-width : goal.returns-in_default-width
returns-in_default-width c =
    rw c.in-Long.is (c.counted_up-in_default-width.ensures ∙ long-place _ _ c.requires c.in_default-width.not-B64)

pub returns-in-B8 : goal.returns-in-B8
returns-in-B8 c = rw (c.in-Convert.is, c.in-B8.is) (c.counted_down-in-B8.ensures ∙ width-place Convert B8 _ c.requires)

pub returns-in_default-width-2 : goal.returns-in_default-width-2
returns-in_default-width-2 c = rw c.in-Convert.is (convert-none _ _ c.requires c.in_default-width-2.not-B8)
