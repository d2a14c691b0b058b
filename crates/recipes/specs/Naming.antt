-- Mnemonics by sign and width.
-- Assumes nothing.
use Rattle.std.specs.Prelude.{[], ◌∷◌, ℕ, eqb, get_or}
use Prim.Native.String.{String, ◌++◌}
use Rattle.laws.specs.Choice.{choose}

-- the letter of a sign: 1 is signed
abbrev pub signed : String → ℕ → String
signed stem sign = stem ++ choose (eqb sign 1) "s" "u"

-- the bits of a lane, by width code
abbrev pub sized : String → ℕ → String
sized stem code = stem ++ get_or ("8" ∷ "16" ∷ "32" ∷ "64" ∷ []) code ""
