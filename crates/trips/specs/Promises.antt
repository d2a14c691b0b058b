-- Demand 2 in each edition of the manual; and that the editions differ in VFMA and VFMS, and in nothing else.
-- proofs/Promises.antt proves each promise under its name.
-- Assumes nothing.
use Rattle.std.specs.Prelude.{Bool, true, false, ◌≡◌, ℕ, ◌<◌}
use Prim.Native.String.{String, slice}
use lib.Text.{eqt}
use Rattle.laws.specs.Answer.{accepted, refused}
use Rattle.laws.specs.Choice.{choose}
use Rattle.insn.specs.declared.Edition.{Edition}
use Rattle.insn.specs.declared.Edition.TheVariants.{B, C}
use Rattle.insn.specs.declared.Insn.{Insn}
use Rattle.insn.specs.declared.Mark.{Mark}
use Rattle.insn.specs.Record.{place_at}
use Rattle.names.specs.Names.{name_of}
use Rattle.decode.specs.Editions.{is_fused, reading_in}
use Rattle.decode.specs.Reading.{reading}
use Rattle.writings.specs.Forms.{pair}
use Rattle.trips.specs.Spelling.{Spelling, Held, spelling, spelled, canonical, with_mark}
use Rattle.encode.specs.Writing.{writing, writing_in}

-- a name of VFMA or VFMS; which pairs are theirs is `is_fused` (decode)
abbrev pub is_fused_name : String → Bool
is_fused_name name = choose (eqt (slice name 0 4) "vfma") true (eqt (slice name 0 4) "vfms")

-- demand 2, one way: a pair that is read, written again, is the same pair, whatever the record's mark and address
abbrev pub ReadThenWritten : Type 0
ReadThenWritten =
    (edition : Edition) (hw1 hw2 address : ℕ) (i : Insn) (mark : Mark) (other : ℕ) → hw1 < 65536 → hw2 < 65536
    → reading_in edition hw1 hw2 address ≡ accepted i → writing_in edition (with_mark i mark other) ≡ accepted (pair hw1 hw2)

-- and the other: a record that is written reads back in its canonical spelling, at any address
pub record ReadsAs (edition : Edition) (hw1 hw2 address : ℕ) (s : Spelling) : Type 0 where
  pub first-halfword : hw1 < 65536
  pub second-halfword : hw2 < 65536
  pub mark : Mark
  pub read : reading_in edition hw1 hw2 address ≡ accepted (spelled s mark address)

abbrev pub WrittenThenRead : Type 0
WrittenThenRead =
    (edition : Edition) (i : Insn) (hw1 hw2 address : ℕ) → Held (place_at i 1)
    → writing_in edition i ≡ accepted (pair hw1 hw2) → ReadsAs edition hw1 hw2 address (canonical (spelling i))

-- under C all is as it was before calls named an edition
abbrev pub UnderC : Type 0
UnderC =
    ((hw1 hw2 address : ℕ) → reading_in C hw1 hw2 address ≡ reading hw1 hw2 address)
    × ((i : Insn) → writing_in C i ≡ writing i)

-- under B a pair of VFMA or VFMS is refused with 3, whatever its registers, and their names with 7, whatever the operands
abbrev pub WithheldUnderB : Type 0
WithheldUnderB =
    ((hw1 hw2 address : ℕ) → is_fused hw1 hw2 ≡ true → reading_in B hw1 hw2 address ≡ refused 3)
    × ((i : Insn) → is_fused_name (name_of i.mnemonic) ≡ true → writing_in B i ≡ refused 7)

-- every pair but those of VFMA and VFMS, and every record with another name, has the same answer under B and C
abbrev pub SameOtherwise : Type 0
SameOtherwise =
    ((hw1 hw2 address : ℕ) → is_fused hw1 hw2 ≡ false → reading_in B hw1 hw2 address ≡ reading_in C hw1 hw2 address)
    × ((i : Insn) → is_fused_name (name_of i.mnemonic) ≡ false → writing_in B i ≡ writing_in C i)

-- of the pairs that C reads just those of VFMA and VFMS have their names
abbrev pub FusedExactly : Type 0
FusedExactly =
    (hw1 hw2 address : ℕ) (i : Insn) → hw1 < 65536 → hw2 < 65536
    → reading_in C hw1 hw2 address ≡ accepted i → is_fused_name (name_of i.mnemonic) ≡ is_fused hw1 hw2

-- and B reads no pair with a name of VFMA or VFMS
abbrev pub NeverUnderB : Type 0
NeverUnderB =
    (hw1 hw2 address : ℕ) (i : Insn) → hw1 < 65536 → hw2 < 65536
    → reading_in B hw1 hw2 address ≡ accepted i → is_fused_name (name_of i.mnemonic) ≡ false
