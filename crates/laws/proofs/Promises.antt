-- The laws of specs/Promises.antt.
-- Assumes nothing.
use mathlib.Core.Path.{ap}
use Prim.Native.Nat.{◌-◌, ◌^◌, ◌<◌}
use native.Mathlib.Omega.{arith}
use lib.IntN.{pos, negsuc}
use Rattle.laws.specs.Promises.{BitsBack, NumberBack}
use Rattle.laws.proofs.Signed.{modulo-pos, modulo-neg, signed_low, signed_high, twice_half}
use Rattle.laws.proofs.Tests.{sides}

pub bits_back : BitsBack
bits_back w x l =
    sides (2 ^ (w - 1)) x (λ h. rw (signed_low w x h) (modulo-pos w x l))
    (λ h. let e : 2 ^ w - 1 - x < 2 ^ w = omega arith in
    rw (signed_high w x l h, modulo-neg w (2 ^ w - 1 - x) e) (omega arith))

pub number_back : NumberBack
number_back w (pos n) z h =
    let t = twice_half w z in
    let l : n < 2 ^ w = omega arith in
    rw (modulo-pos w n l) (signed_low w n h)
number_back w (negsuc n) z h =
    let t = twice_half w z in
    let l : n < 2 ^ w = omega arith in
    rw (modulo-neg w n l, signed_high w (2 ^ w - 1 - n) (omega arith) (omega arith)) (ap negsuc (omega arith))
