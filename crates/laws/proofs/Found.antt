-- An Option is told by what it stands for.
-- Assumes nothing.
use mathlib.Core.Path.{◌≡◌, refl, ap}
use Prim.Native.Nat.{ℕ}
use Rattle.std.specs.Prelude.{Option, Some, None}
use Rattle.laws.specs.Search.{found}
use Rattle.laws.proofs.Never.{never}

pub found_apart : (x y : Option ℕ) → found x ≡ found y → x ≡ y
found_apart (Some a) (Some b) e = ap Some (let k : a ≡ b = cc in k)
found_apart (Some a) None e = never (cc)
found_apart None (Some b) e = never (cc)
found_apart None None e = refl
