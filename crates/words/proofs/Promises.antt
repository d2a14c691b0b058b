-- The promises of specs/Promises.antt.
-- Assumes nothing.
use mathlib.Core.Path.{◌≡◌, refl, ap, subst}
use Prim.Native.Nat.{ℕ, ◌%◌, ◌^◌, ◌<◌}
use native.Mathlib.Omega.{arith}
use lib.Dec.{T, eqb}
use lib.Ieee.{binary64}
use lib.Ieee.Bits.{of_bits-to_bits}
use mathlib.Core.Path.{sym}
use borrow.Author.Tests.{lt-ltb}
use Rattle.laws.specs.Choice.{choose}
use Rattle.insn.specs.declared.Mark.{Mark}
use Rattle.insn.specs.declared.Mark.TheVariants.{T1, T2}
use Rattle.insn.specs.declared.Operand.{Operand}
use Rattle.insn.specs.declared.Operand.TheVariants.{D, Q, S, Imm, Float, Other, Absent}
use Rattle.laws.proofs.Promises.{number_back}
use Rattle.words.specs.Records.{field_word, operand_word}
use Rattle.words.specs.Words.{mark_word, kind_word, value_word}
use Rattle.words.specs.Promises.{OperandFits, WordsBack, ReadingsFit}
use Rattle.words.proofs.Readings.{reading-fits}

field_back : (bits w : ℕ) → w < 2 ^ bits → field_word bits w ≡ w
field_back bits w h = rw (lt-ltb w (2 ^ bits) h)

mark-back : (m : Mark) → choose (eqb (mark_word m) 2) T2 T1 ≡ m
mark-back T1 = refl
mark-back T2 = refl

operand-back : (o : Operand) → OperandFits o → operand_word (kind_word o) (value_word o) ≡ o
unfolding operand_word
operand-back Absent f = refl
operand-back (D n) f = rw (lt-ltb n 256 f)
operand-back (Q n) f = rw (lt-ltb n 256 f)
operand-back (S n) f = rw (lt-ltb n 256 f)
operand-back (Imm v) f = ap Imm (number_back 64 v (omega arith) f)
operand-back (Float x) f = ap Float (of_bits-to_bits binary64 x (subst T (sym f) tt))
operand-back Other f = refl

pub words_back : WordsBack
words_back i f =
    let mnemonic = field_back 16 i.mnemonic f.mnemonic in
    let mark = mark-back i.mark in
    let address : i.address % 2 ^ 32 ≡ i.address = omega (arith, f.address) in
    let count = field_back 8 i.count f.count in
    let first = operand-back i.first f.first in
    let second = operand-back i.second f.second in
    let third = operand-back i.third f.third in
    λ k. record {
      mnemonic = mnemonic k;
      mark = mark k;
      address = address k;
      count = count k;
      first = first k;
      second = second k;
      third = third k;
    }

pub readings_fit : ReadingsFit
readings_fit hw1 hw2 address i h e = reading-fits address h hw1 hw2 i e
