-- What a sheet's own steps say: document 01, 'Sum sheet'. Nothing here looks at the pairs written.
-- Assumes nothing.
use Rattle.std.specs.Prelude.{List, [], ◌∷◌, ℕ, ◌+◌, ◌*◌, ◌/◌, ◌^◌, eqb, ℤ, pos, ◌+ℤ◌, ◌-ℤ◌, ◌*ℤ◌, get_or, set, take}
use Rattle.std.specs.Int.Bits.{bit_and, bit_or, bit_xor}
use Rattle.std.specs.Int.Signed.{lt_z, shr_z}
use Rattle.laws.specs.Choice.{choose}
use Rattle.arithmetic.specs.Whole.{read_as, greater, lesser, ones_if, inverted}
use Rattle.lanes.specs.Lane.{lanewise}
use Rattle.laws.specs.Signed.{modulo}
use Rattle.insn.specs.declared.Sign.{Sign}
use Rattle.insn.specs.declared.Sign.TheVariants.{Unsigned, Signed}
use Rattle.steps.specs.declared.Step.{Step}
use Rattle.insn.specs.Widths.{bits_at}

-- D(2r) + 2^64 × D(2r+1), for each r in turn
abbrev pub paired : List ℕ → List ℕ
paired [] = []
paired (low ∷ []) = []
paired (low ∷ high ∷ file) = (low + 2 ^ 64 * high) ∷ paired file

-- rows 0 to 13 of a register file
unfoldable pub rows_of : List ℕ → List ℕ
rows_of file = take 14 (paired file)

-- row r
abbrev pub row_at : List ℕ → ℕ → ℕ
row_at rows r = get_or rows r 0

-- sign 1 reads a lane as two's complement, else it is a number from 0
abbrev pub sign_of : ℕ → Sign
sign_of sign = choose (eqb sign 1) Signed Unsigned

-- f at each lane of w bits of two rows, modulo 2^w
unfoldable pub each_lane : ℕ → (ℕ → ℕ → ℤ) → ℕ → ℕ → ℕ
each_lane w f a b = lanewise (λ _ x y. modulo w (f x y)) w w w (128 / w) 0 a b

-- The value that a step of each kind puts in its target. a, b and c are the rows that it reads, w the bits of a lane.
unfoldable pub value_table : Step → ℕ → ℕ → ℕ → ℕ → List ℕ
value_table s w a b c =
    let lane = read_as (sign_of s.sign) w in
    (s.low + 2 ^ 64 * s.high)  -- 0
    ∷ a  -- 1
    ∷ each_lane w (λ x y. pos x +ℤ pos y) a b  -- 2
    ∷ each_lane w (λ x y. pos x -ℤ pos y) a b  -- 3
    ∷ each_lane w (λ x y. pos x *ℤ pos y) a b  -- 4
    ∷ bit_and a b  -- 5
    ∷ bit_or a b  -- 6
    ∷ bit_xor a b  -- 7
    ∷ inverted 128 a  -- 8
    ∷ each_lane w (λ x y. pos x *ℤ pos (2 ^ s.amount)) a a  -- 9
    ∷ each_lane w (λ x y. shr_z (lane x) (2 ^ s.amount)) a a  -- 10
    ∷ each_lane w (λ x y. greater (lane x) (lane y)) a b  -- 11
    ∷ each_lane w (λ x y. lesser (lane x) (lane y)) a b  -- 12
    ∷ each_lane w (λ x y. ones_if (lt_z (lane x) (lane y)) w) a b  -- 13
    ∷ bit_or (bit_and a c) (bit_and b (inverted 128 c))  -- 14
    ∷ []

unfoldable pub value_by : ℕ → Step → List ℕ → ℕ
value_by kind s rows = get_or (value_table s (bits_at s.width) (row_at rows s.a) (row_at rows s.b) (row_at rows s.c)) kind 0

-- the rows after a step
unfoldable pub taken : Step → List ℕ → List ℕ
taken s rows = set rows s.target (value_by s.kind s rows)

-- the rows after all steps, in order
unfoldable pub meaning : List Step → List ℕ → List ℕ
meaning [] rows = rows
meaning (s ∷ steps) rows = meaning steps (taken s rows)
