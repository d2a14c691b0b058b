use borrow.Author.Tests.{eq-eqb, ne_eqb}
use Rattle.names.proofs.Known.{is-vorr}
use Rattle.read_registers.proofs.same3.is_move.Goals as goal

pub returns-then-mnemonic-eq-VORR : goal.returns-then-mnemonic-eq-VORR
returns-then-mnemonic-eq-VORR c = rw (← is-vorr c.args.mnemonic, eq-eqb _ _ c.if-mnemonic-eq-VORR.true)

pub returns-else-mnemonic-eq-VORR : goal.returns-else-mnemonic-eq-VORR
returns-else-mnemonic-eq-VORR c = rw (← is-vorr c.args.mnemonic, ne_eqb _ _ c.if-mnemonic-eq-VORR.false)
