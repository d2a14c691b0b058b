-- A record as text: its name, and its operands joined by commas.
-- Assumes nothing.
use Rattle.std.specs.Prelude.{List, [], ◌∷◌, ◌++◌, map, ℕ, leb, take}
use Rattle.insn.specs.declared.Insn.{Insn}
use Rattle.insn.specs.declared.Operand.{Operand}
use Rattle.insn.specs.declared.Operand.TheVariants.{D, Q, S, Imm, Float, Other, Absent}
use Rattle.names.specs.Names.{codes, name_of}
use Rattle.laws.specs.Search.{Found, at, none}
use Rattle.floats.specs.Floats.{k_of}
use Rattle.floats.specs.Found.{find_float}
use Rattle.text.specs.Text.{decimal, minus, signed_decimal}

-- the float of immediate b, as k over 128; those from 128 on are negative
unfoldable pub over_text : Found → List ℕ
over_text (at b) = minus (leb 128 b) ++ decimal (k_of b) ++ codes "/128"
over_text none = []

-- a register by its letter and number, a number after #; no reading gives another kind
unfoldable pub operand_text : Operand → List ℕ
operand_text (D n) = 100 ∷ decimal n  -- d
operand_text (Q n) = 113 ∷ decimal n  -- q
operand_text (S n) = 115 ∷ decimal n  -- s
operand_text (Imm v) = 35 ∷ signed_decimal v  -- #
operand_text (Float x) = 35 ∷ over_text (find_float x)  -- #
operand_text Other = []
operand_text Absent = []

-- texts joined by commas
unfoldable pub with_commas : List (List ℕ) → List ℕ
with_commas [] = []
with_commas (x ∷ []) = x
with_commas (x ∷ y ∷ rest) = x ++ 44 ∷ with_commas (y ∷ rest)  -- ,

-- the places within the count
abbrev pub operands : Insn → List Operand
operands i = take i.count (i.first ∷ i.second ∷ i.third ∷ [])

-- the name, a space, the operands
unfoldable pub insn_text : Insn → List ℕ
insn_text i = codes (name_of i.mnemonic) ++ 32 ∷ with_commas (map operand_text (operands i))
