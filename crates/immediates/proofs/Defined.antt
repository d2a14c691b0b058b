-- The constants of table A7-15 that have a pattern.
-- Assumes nothing.
use mathlib.Core.Path.{◌≡◌, sym}
use mathlib.Core.Bool.{Bool, true, false}
use Prim.Native.Nat.{ℕ}
use Rattle.laws.specs.Answer.{refused}
use Rattle.laws.proofs.Never.{never, wrong}
use Rattle.immediates.specs.Modified.{Constant, byte, each_bit, float, undefined, pattern_in}

abbrev pub is_undefined : Constant → Bool
is_undefined (byte bits place ones) = false
is_undefined each_bit = false
is_undefined float = false
is_undefined undefined = true

pub not-refused : (k : Constant) (b n : ℕ) → is_undefined k ≡ false → pattern_in k b ≡ refused n → ⊥
unfolding pattern_in
not-refused (byte bits place ones) b n h e = never (cc)
not-refused each_bit b n h e = never (cc)
not-refused float b n h e = never (cc)
not-refused undefined b n h e = wrong (sym h)
