use mathlib.Core.Path.{◌≡◌, ◌∙◌}
use Prim.Native.Nat.{◌+◌, ◌*◌, ◌/◌, ◌%◌}
use native.Mathlib.Nat.{div-one}
use native.Mathlib.Omega.{arith}
use borrow.Author.Rules.{rules}
use Rattle.laws.specs.Answer.{refused}
use Rattle.insn.specs.Answers.{answer}
use Rattle.insn.specs.Refusals.{number}
use Rattle.register_tables.specs.Diff.{diff_cells}
use Rattle.register_tables.proofs.Known.{diff-known}
use Rattle.tables.proofs.Read.{blank_cell, full_cell}
use Rattle.read_registers.specs.Diff.{diff_of, diff_reading}
use Rattle.read_registers.proofs.diff.decode_diff.Goals as goal

pub returns-in_err-mnemonic : goal.returns-in_err-mnemonic
unfolding diff_of diff_reading
returns-in_err-mnemonic c =
    let a = c.args in
    let r = a.hw1 / 4096 % 2 * 16 + a.hw2 / 256 % 16 in
    let s = a.hw1 / 16 % 4 in
    let known = diff-known r s (omega arith) (omega arith) in
    let blank = blank_cell diff_cells 4 r s (omega arith) known c.cell.result _ c.cell.ensures.number c.in_err-mnemonic.ensures.value in
    let k : answer c.from_residual.result ≡ refused (number c.in_err-mnemonic.field-0.0) = search rules in
    rw (k, blank.1, blank.0)

pub returns : goal.returns
unfolding diff_reading
returns c =
    let a = c.args in
    let r = a.hw1 / 4096 % 2 * 16 + a.hw2 / 256 % 16 in
    let s = a.hw1 / 16 % 4 in
    let known = diff-known r s (omega arith) (omega arith) in
    let full = full_cell diff_cells 4 r s (omega arith) known c.cell.result _ c.cell.ensures.number c.cell.ensures.named c.in_ok-mnemonic.ensures.value in
    c.with_registers.ensures
    ∙ rw (← full.1, known, c.shape.ensures, c.mark.ensures, c.dnum.ensures, c.dnum-2.ensures, c.dnum-3.ensures, div-one, div-one)
