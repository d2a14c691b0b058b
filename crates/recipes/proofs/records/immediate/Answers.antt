use mathlib.Core.Path.{ap}
use native.Mathlib.Omega.{arith}
use mir.Facts.{to_z_pos}
use mir.Syntax.{w64}
use Rattle.insn.specs.declared.Operand.TheVariants.{Imm}
use Rattle.recipes.proofs.records.immediate.Goals as goal

pub returns : goal.returns
returns c = ap Imm (to_z_pos w64 {n = c.args.n} (omega arith))
