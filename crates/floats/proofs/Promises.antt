-- The promises of specs/Promises.antt.
-- Assumes nothing.
use mathlib.Core.Path.{refl, sym, ◌∙◌}
use Prim.Native.Nat.{ℕ}
use native.Mathlib.Nat.{mul-one}
use lib.Dec.{leb}
use lib.Ieee.{binary32, of_bits}
use lib.Ieee.Exact.{odd_sign}
use Rattle.laws.proofs.Range.{values, agree}
use Rattle.laws.proofs.Found.{found_apart}
use Rattle.floats.specs.Floats.{k_of, float_of, float_bits}
use Rattle.floats.specs.Promises.{FloatValue, FloatPattern, FloatOnce, FloatBack, FloatsFoundApart}
use Rattle.floats.proofs.Found.{its-bits, back_found}

pub float_value : FloatValue
unfolding float_of
float_value b = rw mul-one at (odd_sign 12 (leb 128 b) (k_of b) 0 7)

pub float_pattern : FloatPattern
unfolding values of_bits float_of
float_pattern = agree (λ (b : ℕ). of_bits binary32 (float_bits b)) float_of 256 refl

pub float_once : FloatOnce
float_once x a b ha hb f ea eb = its-bits x f a ha ea ∙ sym (its-bits x f b hb eb)

pub float_back : FloatBack
float_back = back_found

pub floats_found_apart : FloatsFoundApart
floats_found_apart = found_apart
