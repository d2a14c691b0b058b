use mathlib.Core.Path.{◌≡◌}
use Prim.Native.Nat.{◌/◌, ◌%◌}
use native.Mathlib.Nat.{div-one}
use native.Mathlib.Omega.{arith}
use borrow.Author.Rules.{rules}
use Rattle.laws.specs.Answer.{refused}
use Rattle.insn.specs.Answers.{answer}
use Rattle.insn.specs.Refusals.{number}
use Rattle.immediate_tables.specs.Modimm.{modimm}
use Rattle.immediate_tables.proofs.Known.{modimm-known}
use Rattle.tables.proofs.Read.{blank_cell, full_cell}
use Rattle.read_immediates.specs.Modimm.{modimm_of, modimm_reading}
use Rattle.read_immediates.proofs.modimm.decode_modimm.Goals as goal

pub returns-in_err-mnemonic : goal.returns-in_err-mnemonic
unfolding modimm_of modimm_reading
returns-in_err-mnemonic c =
    let a = c.args in
    let op = a.hw2 / 32 % 2 in
    let cmode = a.hw2 / 256 % 16 in
    let known = modimm-known op cmode (omega arith) (omega arith) in
    let blank = blank_cell modimm 16 op cmode (omega arith) known c.cell.result _ c.cell.ensures.number c.in_err-mnemonic.ensures.value in
    let k : answer c.from_residual.result ≡ refused (number c.in_err-mnemonic.field-0.0) = search rules in
    rw (k, blank.1, blank.0)

pub returns-then-is_zero_refused : goal.returns-then-is_zero_refused
unfolding modimm_of modimm_reading
returns-then-is_zero_refused c =
    let a = c.args in
    let op = a.hw2 / 32 % 2 in
    let cmode = a.hw2 / 256 % 16 in
    let known = modimm-known op cmode (omega arith) (omega arith) in
    let full = full_cell modimm 16 op cmode (omega arith) known c.cell.result _ c.cell.ensures.number c.cell.ensures.named c.in_ok-mnemonic.ensures.value in
    rw (full.0, div-one, div-one, ← c.if-is_zero_refused.ensures)

pub returns : goal.returns
unfolding modimm_of modimm_reading
returns c =
    let a = c.args in
    let op = a.hw2 / 32 % 2 in
    let cmode = a.hw2 / 256 % 16 in
    let known = modimm-known op cmode (omega arith) (omega arith) in
    let full = full_cell modimm 16 op cmode (omega arith) known c.cell.result _ c.cell.ensures.number c.cell.ensures.named c.in_ok-mnemonic.ensures.value in
    rw (full.0, full.1, div-one, div-one, ← c.if-is_zero_refused.ensures, ← c.dnum.ensures, ← c.register-vd.ensures, ← c.modimm_operand-value.ensures)
    c.two.ensures
