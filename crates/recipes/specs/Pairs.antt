-- The pairs that each step is translated to, as records: document 01, 'Sum sheet', and document 02, F-10.
-- Assumes nothing.
use Rattle.std.specs.Prelude.{List, [], ◌∷◌, ◌++◌, ℕ, ◌+◌, ◌*◌, ◌/◌, ◌%◌, ◌^◌, eqb, pos, get_or}
use Prim.Native.String.{String}
use Rattle.laws.specs.Answer.{Answer, accepted, refused}
use Rattle.laws.specs.Choice.{choose}
use Rattle.laws.specs.Search.{Found, at, none}
use Rattle.insn.specs.declared.Insn.{Insn}
use Rattle.insn.specs.declared.Mark.TheVariants.{T1}
use Rattle.insn.specs.declared.Operand.{Operand}
use Rattle.insn.specs.declared.Operand.TheVariants.{D, Q, Imm, Absent}
use Rattle.names.specs.Names.{number_of}
use Rattle.tables.specs.Cells.{cell_at}
use Rattle.immediate_tables.specs.Modimm.{modimm}
use Rattle.fields.specs.Halfwords.{bit, field}
use Rattle.immediates.specs.Modified.{modimm_operand}
use Rattle.readings.specs.Operands.{insn}
use Rattle.writings.specs.Forms.{Pair, pair}
use Rattle.encode.specs.Writing.{writing}
use Rattle.steps.specs.declared.Step.{Step}
use Rattle.one_pair.specs.One.{one_for}
use Rattle.recipes.specs.declared.Recipe.{Recipe}
use Rattle.recipes.specs.declared.Recipe.TheVariants.{One, Twice, Joined}
use Rattle.recipes.specs.Naming.{signed, sized}

-- a name with its operands; writing ignores the mark and the address
abbrev pub two_of : String → Operand → Operand → Insn
two_of name x y = insn (number_of name) T1 0 2 x y Absent

abbrev pub three_of : String → Operand → Operand → Operand → Insn
three_of name x y z = insn (number_of name) T1 0 3 x y z

abbrev pub immediate : ℕ → Operand
immediate n = Imm (pos n)

-- the byte of v at bits 8k to 8k + 7, where it stands
abbrev pub byte_of : ℕ → ℕ → ℕ
byte_of v k = v / 2 ^ (8 * k) % 256 * 2 ^ (8 * k)

-- a byte that is not 0 is added by vorr.i32
unfoldable pub add_byte : ℕ → ℕ → List Insn
add_byte r byte = choose (eqb byte 0) [] (two_of "vorr.i32" (D r) (immediate byte) ∷ [])

-- v, of 32 bits, in both words of Dr
unfoldable pub word_pairs : ℕ → ℕ → List Insn
word_pairs r v = two_of "vmov.i32" (D r) (immediate (v % 256)) ∷ (add_byte r (byte_of v 1) ++ (add_byte r (byte_of v 2) ++ add_byte r (byte_of v 3)))

-- the longer recipe of a half of a constant: its two words agree, or they differ
unfoldable pub by_words : ℕ → Recipe
by_words v = choose (eqb (v % 2 ^ 32) (v / 2 ^ 32)) (Twice (v % 2 ^ 32)) (Joined (v % 2 ^ 32) (v / 2 ^ 32))

-- the recipe by what was found
abbrev pub recipe_by : Found → ℕ → Recipe
recipe_by (at t) v = One t
recipe_by none v = by_words v

-- the recipe of a half: the lowest place of one pair that leaves it, and by words only if there is none
unfoldable pub recipe_of : ℕ → Recipe
recipe_of v = recipe_by (one_for v) v

-- the record that the place op:cmode:imm8 is read as, with a register
abbrev pub record_at : Operand → ℕ → Insn
record_at x t = two_of (cell_at modimm (bit 12 t) (field 11 8 t)) x (modimm_operand (bit 12 t) (field 11 8 t) (field 7 0 t))

-- the high word of D28 joined to the low word of Dr, by a mask in D30
unfoldable pub join_pairs : ℕ → List Insn
join_pairs r = two_of "vmov.i64" (D 30) (immediate 4294967295) ∷ three_of "vbif" (D r) (D 28) (D 30) ∷ []

-- a half in Dr
unfoldable pub recipe_pairs : ℕ → Recipe → List Insn
recipe_pairs r (One t) = record_at (D r) t ∷ []
recipe_pairs r (Twice v) = word_pairs r v
recipe_pairs r (Joined low high) = word_pairs r low ++ (word_pairs 28 high ++ join_pairs r)

abbrev pub half_pairs : ℕ → ℕ → List Insn
half_pairs r v = recipe_pairs r (recipe_of v)

-- the pairs of a step of each kind: t is its target, Q14 is scratch
unfoldable pub pair_table : Step → Operand → Operand → Operand → Operand → List (List Insn)
pair_table s t a b c =
    let w = s.width in
    let k = immediate s.amount in
    (half_pairs (2 * s.target) s.low ++ half_pairs (2 * s.target + 1) s.high)  -- 0
    ∷ (two_of "vmov" t a ∷ [])  -- 1
    ∷ (three_of (sized "vadd.i" w) t a b ∷ [])  -- 2
    ∷ (three_of (sized "vsub.i" w) t a b ∷ [])  -- 3
    ∷ (three_of (sized "vmul.i" w) t a b ∷ [])  -- 4
    ∷ (three_of "vand" t a b ∷ [])  -- 5
    ∷ (three_of "vorr" t a b ∷ [])  -- 6
    ∷ (three_of "veor" t a b ∷ [])  -- 7
    ∷ (two_of "vmov.i32" (Q 14) (immediate 0) ∷ three_of "vorn" t (Q 14) a ∷ [])  -- 8
    ∷ (three_of (sized "vshl.i" w) t a k ∷ [])  -- 9
    ∷ (choose (eqb s.amount 0) (two_of "vmov" t a) (three_of (sized (signed "vshr." s.sign) w) t a k) ∷ [])  -- 10
    ∷ (three_of (sized (signed "vmax." s.sign) w) t a b ∷ [])  -- 11
    ∷ (three_of (sized (signed "vmin." s.sign) w) t a b ∷ [])  -- 12
    ∷ (three_of (sized (signed "vcgt." s.sign) w) t b a ∷ [])  -- 13
    ∷ (two_of "vmov" (Q 14) c ∷ three_of "vbsl" (Q 14) a b ∷ two_of "vmov" t (Q 14) ∷ [])  -- 14
    ∷ []

unfoldable pub pairs_by : ℕ → Step → List Insn
pairs_by kind s = get_or (pair_table s (Q s.target) (Q s.a) (Q s.b) (Q s.c)) kind []

-- the pairs of a list of steps
unfoldable pub pairs_of : List Step → List Insn
pairs_of [] = []
pairs_of (s ∷ steps) = pairs_by s.kind s ++ pairs_of steps

-- the halfwords of a record's pair
abbrev pub halfwords : Answer Pair → List ℕ
halfwords (accepted (pair hw1 hw2)) = hw1 ∷ hw2 ∷ []
halfwords (refused n) = []

-- the halfwords of records, as edition C has them written
unfoldable pub halfwords_of : List Insn → List ℕ
halfwords_of [] = []
halfwords_of (i ∷ is) = halfwords (writing i) ++ halfwords_of is
