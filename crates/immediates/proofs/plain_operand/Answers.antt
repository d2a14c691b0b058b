use mathlib.Core.Path.{ap, ◌∙◌}
use native.Mathlib.Omega.{arith}
use mir.Facts.{to_z_pos}
use mir.Syntax.{w64}
use Rattle.insn.specs.declared.Operand.TheVariants.{Imm}
use Rattle.immediates.specs.Modified.{constant_at, operand_in}
use Rattle.immediates.proofs.Expansions.{no-cmode, row-operand}
use Rattle.immediates.proofs.plain_operand.Goals as goal

pub returns-in-0-to-14 : goal.returns-in-0-to-14
returns-in-0-to-14 c =
    ap Imm (to_z_pos w64 {n = c.element_of.result} (omega arith))
    ∙ rw c.element_of.ensures.0 (row-operand c.args.cmode c.args.imm8 (omega arith) c.ranges.imm8.fits)

pub returns-in-15 : goal.returns-in-15
unfolding constant_at operand_in
returns-in-15 c = rw (c.in-15.is, c.imm_float.ensures)

pub returns-in_default : goal.returns-in_default
unfolding operand_in
returns-in_default c = rw (no-cmode c.args.cmode (omega arith))
