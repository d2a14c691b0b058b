use mathlib.Core.Path.{sym, ◌∙◌}
use native.Mathlib.Omega.{arith}
use Rattle.display.proofs.Registers.{register-text}
use Rattle.text.proofs.Writes.{widen}
use Rattle.display.proofs.operands.put_operand.Goals as goal

pub returns-then-is_register : goal.returns-then-is_register
returns-then-is_register c =
    let o = c.args.o in
    let h = rw (c.register_letter.ensures, c.register_number.ensures) at c.put_register.ensures in
    widen (omega arith) (rw (register-text o (sym c.is_register.ensures ∙ c.if-is_register.true)) at h)

pub put_value-requires : goal.put_value-requires
put_value-requires c =
    record { at_bound = omega arith; o_value = sym c.is_register.ensures ∙ c.if-is_register.false }

pub returns-else-is_register : goal.returns-else-is_register
returns-else-is_register c =
    c.put_value.ensures
