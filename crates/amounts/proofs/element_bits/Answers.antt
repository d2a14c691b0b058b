use mathlib.Core.Path.{ap, ◌∙◌}
use Prim.Native.Nat.{ℕ, ◌*◌, ◌%◌, ◌^◌}
use native.Mathlib.Omega.{arith}
use Rattle.insn.proofs.Sizes.{at-most-64}
use Rattle.amounts.proofs.Shifts.{code_lt, shifted}
use Rattle.amounts.proofs.element_bits.Goals as goal

pub overflow_shl-result : goal.overflow_shl-result
overflow_shl-result c = omega (arith, code_lt c.args.l c.args.imm6, c.shift_code.ensures)

pub returns : goal.returns
returns c =
    let h = code_lt c.args.l c.args.imm6 in
    let e = ap (λ (k : ℕ). 8 * 2 ^ k % 256) c.shift_code.ensures ∙ shifted _ h in
    (e, rw e (at-most-64 (omega arith)))
