use native.Mathlib.Omega.{arith}
use mir.Facts.{to_z-of_z}
use mir.Syntax.{w64}
use borrow.Author.Rules.{rules}
use Rattle.display.specs.Operands.{operand_text}
use Rattle.display.proofs.Registers.{no_text}
use Rattle.text.proofs.Writes.{then, nothing, widen, reword}
use Rattle.display.proofs.operands.put_value.Goals as goal

pub returns-in-Imm : goal.returns-in-Imm
unfolding operand_text
returns-in-Imm c =
    rw c.in-Imm.is (rw (to_z-of_z {w = w64} {z = c.in-Imm.v} (search rules)) at (then c.put.ensures c.put_signed.ensures))

pub returns-in-Float : goal.returns-in-Float
unfolding operand_text
returns-in-Float c =
    rw c.in-Float.is (widen (omega arith) (then c.put-in-Float.ensures c.put_over.ensures))

pub returns-in-D : goal.returns-in-D
returns-in-D c =
    reword (no_text c.args.o c.requires.o_value c.in-D.is) (nothing _)
