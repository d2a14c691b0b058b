use Rattle.std.proofs.Common.{◌≡◌, length}
use Rattle.listing_test.proofs.repeated.Given as goal

abbrev pub invariant-loop-i : goal.invariant-loop-i
invariant-loop-i l = 65540 ≡ length l.bytes
