-- Laws that a reader may want to see; proofs/Promises.antt proves each under its name.
-- Assumes nothing.
use Rattle.std.specs.Prelude.{◌≡◌, ℕ, ◌-◌, ◌^◌, ◌<◌, ℤ}
use Rattle.std.specs.Int.Signed.{mag}
use Rattle.laws.specs.Signed.{twos_complement, modulo}

-- w bits, read as a signed number, have that number's bits; a number that has w bits is that of its bits
abbrev pub BitsBack : Type 0
BitsBack = (w x : ℕ) → x < 2 ^ w → modulo w (twos_complement w x) ≡ x

abbrev pub NumberBack : Type 0
NumberBack = (w : ℕ) (v : ℤ) → 0 < w → mag v < 2 ^ (w - 1) → twos_complement w (modulo w v) ≡ v
