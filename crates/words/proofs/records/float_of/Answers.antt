use lib.Ieee.{div, of_bits}
use Rattle.words.proofs.Floats.{nan-of, number-of}
use Rattle.words.proofs.records.float_of.Goals as goal

pub returns-then-w-gt9218868437227405312 : goal.returns-then-w-gt9218868437227405312
unfolding div of_bits
returns-then-w-gt9218868437227405312 c = nan-of _ c.if-w-gt9218868437227405312.true

pub float_from_bits-result : goal.float_from_bits-result
float_from_bits-result c = number-of _ c.if-w-gt9218868437227405312.false
