use borrow.Author.Tests.{eq-eqb, ne_eqb}
use Rattle.names.proofs.Known.{named, vmov-number}
use Rattle.names.proofs.Promises.{numbers_back}
use Rattle.read_registers.specs.Same3.{same3_of}
use Rattle.read_registers.proofs.same3.with_registers.Goals as goal

pub returns-then-is_pairwise_quad : goal.returns-then-is_pairwise_quad
unfolding same3_of
returns-then-is_pairwise_quad c = rw (named _ c.requires, ← c.if-is_pairwise_quad.ensures)

pub returns-then-is_move : goal.returns-then-is_move
unfolding same3_of
returns-then-is_move c =
    rw (named _ c.requires, ← c.if-is_pairwise_quad.ensures, ← c.if-is_move.ensures, vmov-number, ← c.register-vd.ensures, ← c.register-vm.ensures)
    c.two.ensures

pub returns-then-opc-eq2 : goal.returns-then-opc-eq2
unfolding same3_of
returns-then-opc-eq2 c =
    rw (named _ c.requires, ← c.if-is_pairwise_quad.ensures, ← c.if-is_move.ensures, eq-eqb _ _ c.if-opc-eq2.true, numbers_back _ c.requires, ← c.register-vd.ensures, ← c.register-vm.ensures, ← c.register-vn.ensures)
    c.three.ensures

pub returns : goal.returns
unfolding same3_of
returns c =
    rw (named _ c.requires, ← c.if-is_pairwise_quad.ensures, ← c.if-is_move.ensures, ne_eqb _ _ c.if-opc-eq2.false, numbers_back _ c.requires, ← c.register-vd.ensures, ← c.register-vm.ensures, ← c.register-vn.ensures)
    c.three-2.ensures
