use Rattle.names.proofs.Known.{named}
use Rattle.names.proofs.Promises.{numbers_back}
use Rattle.read_registers.specs.Diff.{diff_of}
use Rattle.read_registers.proofs.diff.with_registers.Goals as goal

pub returns : goal.returns
unfolding diff_of
returns c =
    rw (named _ c.requires, numbers_back _ c.requires, ← c.of_shape-quad.ensures, ← c.register-vd.ensures, ← c.register-vn.ensures, ← c.register-vm.ensures)
    c.three.ensures
