use borrow.Author.Tests.{lt-ltb, le-ltb}
use Rattle.floats.proofs.Exact.{exact}
use Rattle.floats.proofs.imm_float.Goals as goal

pub returns-then-imm8-lt128 : goal.returns-then-imm8-lt128
returns-then-imm8-lt128 c =
    rw c.float_k.ensures (rw (lt-ltb _ _ c.if-imm8-lt128.true) at (exact c.args.imm8 c.ranges.imm8.fits))

pub returns-else-imm8-lt128 : goal.returns-else-imm8-lt128
returns-else-imm8-lt128 c =
    rw c.float_k.ensures (rw (le-ltb _ _ c.if-imm8-lt128.false) at (exact c.args.imm8 c.ranges.imm8.fits))
