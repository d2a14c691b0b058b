-- The writing of a record: 7 a number that is no mnemonic's; then 8, 5 and 9, as its form has it.
-- Assumes nothing.
use Rattle.std.specs.Prelude.{ℕ}
use Prim.Native.String.{String}
use Rattle.laws.specs.Answer.{Answer, refused}
use Rattle.laws.specs.Choice.{choose}
use Rattle.insn.specs.declared.Edition.{Edition}
use Rattle.insn.specs.declared.Insn.{Insn}
use Rattle.insn.specs.declared.Operand.{Operand}
use Rattle.insn.specs.Record.{place_at}
use Rattle.editions.specs.Editions.{withholds}
use Rattle.homes.specs.Home.{home_of}
use Rattle.names.specs.Names.{name_of}
use Rattle.homes.specs.declared.Home.{Home}
use Rattle.homes.specs.declared.Home.TheVariants.{Same3, Shift, Vmovl, Modimm, Diff, Vmov, Nowhere}
use Rattle.writings.specs.Forms.{Pair, is_number}
use Rattle.write_registers.specs.Same3.{same3_writing, vmov_writing}
use Rattle.write_registers.specs.Diff.{diff_writing}
use Rattle.write_immediates.specs.Shift.{shift_writing, vmovl_writing}
use Rattle.write_immediates.specs.Modimm.{modimm_writing}

-- a name and its operands, in the table where the name is at home
abbrev pub in_home : Home → String → ℕ → Operand → Operand → Operand → Answer Pair
in_home (Same3 cell) name count a b c = same3_writing cell name count a b c
in_home (Shift cell) name count a b c = shift_writing cell count a b c
in_home (Vmovl cell) name count a b c = vmovl_writing cell count a b
in_home (Modimm cell) name count a b c = modimm_writing name count a b
in_home (Diff cell) name count a b c = diff_writing cell count a b c
in_home Vmov name count a b c = vmov_writing count a b
in_home Nowhere name count a b c = refused 7

-- the pair of a record by edition C of the manual, whatever its address and its mark
unfoldable pub writing : Insn → Answer Pair
writing i =
    in_home (home_of (name_of i.mnemonic) (is_number (place_at i 2))) (name_of i.mnemonic) i.count
    (place_at i 0) (place_at i 1) (place_at i 2)

-- the writing in an edition: the number of a name that it withholds is unknown, whatever the operands
abbrev pub writing_in : Edition → Insn → Answer Pair
writing_in edition i = choose (withholds edition (name_of i.mnemonic)) (refused 7) (writing i)
