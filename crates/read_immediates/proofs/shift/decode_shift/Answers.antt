use mathlib.Core.Path.{◌≡◌, ap, ◌∙◌}
use Prim.Native.Nat.{◌+◌, ◌*◌, ◌/◌, ◌%◌}
use native.Mathlib.Nat.{div-one}
use native.Mathlib.Omega.{arith}
use borrow.Author.Rules.{rules}
use Rattle.laws.specs.Answer.{refused}
use Rattle.insn.specs.Answers.{answer}
use Rattle.insn.specs.Refusals.{number}
use Rattle.immediate_tables.specs.Shift.{shift_cells, vmovl}
use Rattle.immediate_tables.proofs.Known.{shift-known}
use Rattle.names.specs.Names.{number_of}
use Rattle.tables.proofs.Cells.{flat-cell}
use Rattle.tables.proofs.Read.{blank_cell, full_cell}
use Rattle.read_immediates.specs.Shift.{shift_of, shift_reading}
use Rattle.read_immediates.proofs.shift.decode_shift.Goals as goal

pub returns-then-is_forbidden : goal.returns-then-is_forbidden
unfolding shift_of shift_reading
returns-then-is_forbidden c = rw (div-one, ← c.class-class.ensures, ← c.if-is_forbidden.ensures)

pub returns-in_err-mnemonic : goal.returns-in_err-mnemonic
unfolding shift_of shift_reading
returns-in_err-mnemonic c =
    let a = c.args in
    let r = a.hw1 / 4096 % 2 * 32 + a.hw2 / 256 % 16 * 2 + a.hw2 / 64 % 2 in
    let size = c.column-size.result in
    let small = c.column-size.ensures.upper_bound in
    let known = shift-known r size (omega arith) small in
    let blank = blank_cell shift_cells 4 r size small known c.cell.result _ c.cell.ensures.number c.in_err-mnemonic.ensures.value in
    let k : answer c.from_residual.result ≡ refused (number c.in_err-mnemonic.field-0.0) = search rules in
    rw (div-one, ← c.class-class.ensures, ← c.if-is_forbidden.ensures, ← c.column-size.ensures.value, k, blank.1, blank.0)

pub returns : goal.returns
unfolding shift_of shift_reading
returns c =
    let a = c.args in
    let r = a.hw1 / 4096 % 2 * 32 + a.hw2 / 256 % 16 * 2 + a.hw2 / 64 % 2 in
    let size = c.column-size.result in
    let small = c.column-size.ensures.upper_bound in
    let known = shift-known r size (omega arith) small in
    let full = full_cell shift_cells 4 r size small known c.cell.result _ c.cell.ensures.number c.cell.ensures.named c.in_ok-mnemonic.ensures.value in
    let moved = c.vmovl_cell.ensures ∙ ap number_of (flat-cell vmovl 4 (a.hw1 / 4096 % 2) size small) in
    rw (div-one, div-one, ← c.class-class.ensures, ← c.if-is_forbidden.ensures, ← c.column-size.ensures.value, full.0, full.1)
    (rw (← moved, ← c.shift_amount.ensures, ← c.dnum.ensures, ← c.dnum-2.ensures) c.with_amount.ensures)
