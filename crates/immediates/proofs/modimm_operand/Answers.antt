use Prim.Native.Nat.{◌<◌}
use mathlib.Core.Path.{ap, ◌∙◌}
use native.Mathlib.Omega.{arith}
use mir.Facts.{to_z-of_z}
use mir.Syntax.{w64}
use Rattle.insn.specs.declared.Operand.TheVariants.{Imm}
use Rattle.immediates.specs.Modified.{constant_at, element, operand_in}
use Rattle.immediates.proofs.Expansions.{no-op, no_last, either}
use Rattle.immediates.proofs.modimm_operand.Goals as goal

pub returns-in-1-0-to-13 : goal.returns-in-1-0-to-13
returns-in-1-0-to-13 c =
    let below : c.args.cmode < 14 = omega arith in rw (c.in-1-0-to-13.is-0, ← either _ below) c.plain_operand-in-1-0-to-13.ensures

pub returns-in-1-eq14 : goal.returns-in-1-eq14
unfolding constant_at element operand_in
returns-in-1-eq14 c =
    ap Imm (to_z-of_z {w = w64} {z = c.signed_of.result} (record { sfits = c.signed_of.type_inv }))
    ∙ rw (c.in-1-eq14.is-0, c.in-1-eq14.is-1, c.signed_of.ensures, c.bytes_of.ensures)

pub returns-in_default : goal.returns-in_default
unfolding operand_in
returns-in_default c = rw (c.in_default.is-0, no_last c.args.cmode (omega arith))

pub returns-in_default-2 : goal.returns-in_default-2
unfolding operand_in
returns-in_default-2 c = rw (no-op c.args.op c.args.cmode (omega arith))
