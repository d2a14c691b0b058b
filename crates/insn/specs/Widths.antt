-- The width of an element. The manual's size is 0 to 3, for 8 to 64 bits.
-- Assumes nothing.
use Rattle.std.specs.Prelude.{[], ◌∷◌, ℕ, ◌*◌, ◌^◌, get_or}
use Rattle.insn.specs.declared.Width.{Width}
use Rattle.insn.specs.declared.Width.TheVariants.{B8, B16, B32, B64}

-- the bits of a size
abbrev pub bits_at : ℕ → ℕ
bits_at size = 8 * 2 ^ size

-- the size of a width, and the width of a size
abbrev pub size_of : Width → ℕ
size_of B8 = 0
size_of B16 = 1
size_of B32 = 2
size_of B64 = 3

abbrev pub width_at : ℕ → Width
width_at size = get_or (B8 ∷ B16 ∷ B32 ∷ []) size B64

-- the bits of a width
abbrev pub bits_of : Width → ℕ
bits_of w = bits_at (size_of w)
