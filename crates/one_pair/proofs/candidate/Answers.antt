use mathlib.Core.Path.{refl}
use Prim.Native.Nat.{◌%◌}
use native.Mathlib.Omega.{arith}
use Rattle.one_pair.proofs.Guess.{by_bytes, covers, twice_word, twice-halfword}
use Rattle.one_pair.proofs.candidate.Goals as goal

pub overflow_add-result : goal.overflow_add-result
overflow_add-result c = omega (arith, c.byte_bits.ensures.1)

pub returns-then-w-v : goal.returns-then-w-v
returns-then-w-v c = covers _ _ (by_bytes _ _ c.if-w-v.true (rw c.byte_bits.ensures.0 refl))

pub returns-then-h-w : goal.returns-then-h-w
returns-then-h-w c =
    let v = c.args.v in
    rw (twice-halfword (v % 0x1_0000_0000) c.if-h-w.true, twice_word v c.if-w-v.false) at c.halfword_place.ensures

pub returns : goal.returns
returns c = rw (twice_word c.args.v c.if-w-v.false) at c.word_place.ensures
