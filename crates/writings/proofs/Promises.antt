-- The promises of specs/Promises.antt.
-- Assumes nothing.
use mathlib.Core.Path.{◌≡◌, ap}
use Rattle.std.specs.Prelude.{Ok, Err}
use Rattle.laws.proofs.Never.{never}
use Rattle.insn.proofs.Promises.{numbered_apart, answers_apart}
use Rattle.writings.specs.Promises.{WritingsApart, FieldsApart, WideFieldsApart}

pub writings_apart : WritingsApart
writings_apart (Ok (a, b)) (Ok (c, d)) e = let k : a ≡ c = cc in let l : b ≡ d = cc in λ i. Ok (k i, l i)
writings_apart (Ok (a, b)) (Err g) e = never (cc)
writings_apart (Err f) (Ok (c, d)) e = never (cc)
writings_apart (Err f) (Err g) e = ap Err (numbered_apart f g (cc))

pub fields_apart : FieldsApart
fields_apart = answers_apart

pub wide_fields_apart : WideFieldsApart
wide_fields_apart = answers_apart
