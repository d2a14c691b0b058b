-- The bits of a halfword, and the layout that the four families of A7.4 share.
-- Assumes nothing.
use Rattle.std.specs.Prelude.{ℕ, ◌+◌, ◌-◌, ◌*◌, ◌/◌, ◌%◌, ◌^◌}

-- bit n; bit 0 is the lowest
abbrev pub bit : ℕ → ℕ → ℕ
bit n h = h / 2 ^ n % 2

-- bits hi..lo as a number
abbrev pub field : ℕ → ℕ → ℕ → ℕ
field hi lo h = h / 2 ^ lo % 2 ^ (hi - lo + 1)

-- the first halfword:  1 1 1 U 1 1 1 1 a D x x x x x x
--   three-same         a = 0, x = size:Vn
--   three-different    a = 1, x = size:Vn
--   shift              a = 1, x = imm6
--   modified-immediate a = 1, x = 000:imm3, and U is the top bit of imm8
abbrev pub first : ℕ → ℕ → ℕ → ℕ → ℕ
first u a d x = 0xef00 + u * 2 ^ 12 + a * 2 ^ 7 + d * 2 ^ 6 + x

-- the second halfword: Vd Vd Vd Vd o o o o b7 b6 b5 b4 y y y y
--   three-same         o = opc,   b7 b6 b5 b4 = N Q M B, y = Vm
--   three-different    o = A,     b7 b6 b5 b4 = N 0 M 0, y = Vm
--   shift              o = A,     b7 b6 b5 b4 = L B M 1, y = Vm
--   modified-immediate o = cmode, b7 b6 b5 b4 = 0 Q op 1, y = imm4
abbrev pub second : ℕ → ℕ → ℕ → ℕ → ℕ → ℕ → ℕ → ℕ
second vd o b7 b6 b5 b4 y = vd * 2 ^ 12 + o * 2 ^ 8 + b7 * 2 ^ 7 + b6 * 2 ^ 6 + b5 * 2 ^ 5 + b4 * 2 ^ 4 + y
