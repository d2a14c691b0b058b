-- Which registers of a mnemonic are quadwords: Vd, Vn and Vm, by the shape or the class of its row.
-- Assumes nothing.
use Rattle.std.specs.Prelude.{Bool, true, false}
use Rattle.tables.specs.declared.DiffShape.{DiffShape}
use Rattle.tables.specs.declared.DiffShape.TheVariants.{Long as long, Wide, Narrow as narrow}
use Rattle.tables.specs.declared.ShiftClass.{ShiftClass}
use Rattle.tables.specs.declared.ShiftClass.TheVariants.{Right, Left, Narrow, Long, Convert}
use Rattle.tables.specs.declared.lengths.Lengths.{Lengths}

abbrev pub lengths : Bool → Bool → Bool → Lengths
lengths d n m = record { d = d; n = n; m = m }

-- A7-10: long is Q D D, wide Q Q D, narrow D Q Q
abbrev pub shape_lengths : DiffShape → Lengths
shape_lengths long = lengths true false false
shape_lengths Wide = lengths true true false
shape_lengths narrow = lengths false true true

-- A7-12: a narrowing row is D Q, a lengthening one Q D, any other two alike, as Q says; a shift has no Vn, and its n is as its m
abbrev pub class_lengths : ShiftClass → Bool → Lengths
class_lengths Right quad = lengths quad quad quad
class_lengths Left quad = lengths quad quad quad
class_lengths Narrow quad = lengths false true true
class_lengths Long quad = lengths true false false
class_lengths Convert quad = lengths quad quad quad
