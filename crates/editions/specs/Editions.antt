-- What an edition of the manual withholds: document 02, F-4.
-- Assumes nothing.
use Rattle.std.specs.Prelude.{Bool, List, [], ◌∷◌, ℕ, eqb}
use Prim.Native.String.{String}
use Rattle.laws.specs.Choice.{choose}
use Rattle.insn.specs.declared.Edition.{Edition}
use Rattle.insn.specs.declared.Edition.TheVariants.{B, C}
use Rattle.names.specs.Names.{member}

-- the names of our tables that an edition has not: DDI 0406B has no VFMA and VFMS
abbrev pub withheld : Edition → List String
withheld B = "vfma.f32" ∷ "vfms.f32" ∷ []
withheld C = []

-- whether a name is one of them
abbrev pub withholds : Edition → String → Bool
withholds edition name = member name (withheld edition)

-- the edition that a number names at the C boundary: 1 is B, any other is C
abbrev pub edition_of : ℕ → Edition
edition_of n = choose (eqb n 1) B C
