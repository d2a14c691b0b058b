-- A lane of w bits as a whole number, what comparisons leave of two, and a number with its bits turned over.
-- Assumes nothing.
use Rattle.std.specs.Prelude.{ℕ, ◌-◌, ◌^◌, Bool, ℤ, pos, int_lt}
use Rattle.laws.specs.Choice.{choose}
use Rattle.laws.specs.Signed.{twos_complement}
use Rattle.insn.specs.declared.Sign.{Sign}
use Rattle.insn.specs.declared.Sign.TheVariants.{Unsigned, Signed}

-- a lane x of w bits as a whole number: from 0, or in two's complement
unfoldable pub read_as : Sign → ℕ → ℕ → ℤ
read_as Unsigned w x = pos x
read_as Signed w x = twos_complement w x

-- the greater and the lesser of two whole numbers
unfoldable pub greater : ℤ → ℤ → ℤ
greater a b = choose (int_lt a b) b a

unfoldable pub lesser : ℤ → ℤ → ℤ
lesser a b = choose (int_lt a b) a b

-- w ones where the test holds, else 0
unfoldable pub ones_if : Bool → ℕ → ℤ
ones_if t w = choose t (pos (2 ^ w - 1)) (pos 0)

-- each of so many bits turned over
abbrev pub inverted : ℕ → ℕ → ℕ
inverted size x = 2 ^ size - 1 - x
