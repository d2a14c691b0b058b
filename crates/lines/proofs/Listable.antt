-- A length that is listed.
-- Assumes nothing.
use mathlib.Core.Path.{◌≡◌}
use mathlib.Core.Bool.{true}
use Prim.Native.Nat.{ℕ, ◌%◌, ◌≤◌}
use lib.Dec.{eqb, leb}
use borrow.Author.Tests.{leb-true}
use Rattle.laws.proofs.Tests.{both_true}
use Rattle.lines.specs.Listing.{is_listable}

pub listable : (n : ℕ) → is_listable n ≡ true → n ≤ 65536
unfolding is_listable
listable n e = leb-true n 65536 (both_true (eqb (n % 4) 0) (leb n 65536) e).1
