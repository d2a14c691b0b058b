-- The reading of a pair in an edition of the manual.
-- Assumes nothing.
use Rattle.std.specs.Prelude.{Bool, true, false, ℕ, eqb}
use Rattle.laws.specs.Answer.{Answer, refused}
use Rattle.laws.specs.Choice.{choose, both}
use Rattle.insn.specs.declared.Edition.{Edition}
use Rattle.insn.specs.declared.Insn.{Insn}
use Rattle.editions.specs.Editions.{withholds}
use Rattle.fields.specs.Halfwords.{bit, field}
use Rattle.read_registers.specs.Same3.{same3_name}
use Rattle.decode.specs.declared.Family.{Family}
use Rattle.decode.specs.declared.Family.TheVariants.{ThreeSame, ThreeDifferent, Shift, ModifiedImmediate, NoFamily}
use Rattle.decode.specs.Reading.{family_of, reading}

-- the family whose names table A7-9 has
abbrev pub is_three_same : Family → Bool
is_three_same ThreeSame = true
is_three_same ThreeDifferent = false
is_three_same Shift = false
is_three_same ModifiedImmediate = false
is_three_same NoFamily = false

-- a pair whose cell of table A7-9 has a name that the edition withholds; no other table has such a name
abbrev pub is_withheld : Edition → ℕ → ℕ → Bool
is_withheld edition hw1 hw2 = both (withholds edition (same3_name hw1 hw2)) (is_three_same (family_of hw1 hw2))

-- such a cell is blank in the edition, whatever the registers; every other pair is read as by C
abbrev pub reading_in : Edition → ℕ → ℕ → ℕ → Answer Insn
reading_in edition hw1 hw2 address = choose (is_withheld edition hw1 hw2) (refused 3) (reading hw1 hw2 address)

-- the pairs of VFMA and VFMS, by the bits that their encoding fixes; op tells the two apart, and 0x1de is 1 1 1 0 1 1 1 1 0
--   hw1  1 1 1 0 1 1 1 1 0 D op 0 Vn      hw2  Vd 1 1 0 0 N Q M 1 Vm
abbrev pub is_fused : ℕ → ℕ → Bool
is_fused hw1 hw2 =
    both (eqb (field 15 7 hw1) 0x1de)
    (both (eqb (bit 4 hw1) 0)
    (both (eqb (field 11 8 hw2) 12) (eqb (bit 4 hw2) 1)))
