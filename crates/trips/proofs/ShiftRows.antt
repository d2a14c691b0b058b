-- The rows of two registers and a shift amount: their names, classes, lengths and operands.
-- Assumes nothing.
use mathlib.Core.Path.{◌≡◌, refl}
use mathlib.Core.Bool.{Bool, true, false}
use Prim.Native.Nat.{ℕ, ◌+◌, ◌*◌, ◌%◌, ◌<◌}
use Prim.Native.String.{String}
use native.Mathlib.Omega.{arith}
use lib.Dec.{eqb}
use lib.ListN.{get_or}
use lib.Text.{eqt}
use Rattle.laws.specs.Choice.{choose, both}
use Rattle.laws.proofs.Range.{values, agree}
use Rattle.insn.specs.declared.Mark.TheVariants.{T1}
use Rattle.tables.specs.Cells.{cell_at}
use Rattle.laws.proofs.Never.{never}
use Rattle.immediate_tables.specs.Shift.{shift_rows, shift_cells, shift_classes, vmovl}
use Rattle.tables.specs.declared.ShiftClass.{ShiftClass}
use Rattle.tables.specs.declared.ShiftClass.TheVariants.{Right, Left, Narrow, Long, Convert}
use Rattle.tables.proofs.Cells.{cell4}
use Rattle.homes.proofs.Cells.{class_at}
use Rattle.fields.specs.Halfwords.{bit, field}
use Rattle.fields.specs.Registers.{dnum_of, vec_of}
use Rattle.readings.specs.Operands.{is_set}
use Rattle.readings.specs.Operands as Read
use Rattle.read_immediates.specs.Shift.{amount, shifted, shift_of, shift_reading, is_long_by_zero}
use Rattle.decode.specs.Reading.{reading, in_family}
use Rattle.write_immediates.specs.Shift.{bit_b}
use Rattle.trips.specs.Spelling.{moved_name}
use Rattle.trips.proofs.Routing.{ImmediateBits, to-shift, bit-set, bit-small}
use Rattle.tables.specs.Lengths.{class_lengths}

abbrev pub is_long : ShiftClass → Bool
is_long Right = false
is_long Left = false
is_long Narrow = false
is_long Long = true
is_long Convert = false

-- the row U:A:b of a cell U:A:B:size
abbrev pub row_with : ℕ → ℕ → ℕ
row_with k b = bit 7 k * 32 + field 6 3 k * 2 + b

-- a cell that is not blank stands in each row that it is written to, with its class
abbrev pub rewritten : Bool → ℕ → String
rewritten quad k = choose (eqt (cell4 shift_cells k) "") (cell4 shift_cells k) (cell_at shift_cells (row_with k (bit_b (class_at k) quad k)) (k % 4))

pub same-cell : (quad : Bool) (k : ℕ) → k < 256 → eqt (cell4 shift_cells k) "" ≡ false → cell_at shift_cells (row_with k (bit_b (class_at k) quad k)) (k % 4) ≡ cell4 shift_cells k
unfolding values shift_rows shift_cells shift_classes
same-cell true k h e = rw e at (agree (rewritten true) (cell4 shift_cells) 256 refl k h)
same-cell false k h e = rw e at (agree (rewritten false) (cell4 shift_cells) 256 refl k h)

abbrev pub reclassed : Bool → ℕ → ShiftClass
reclassed quad k = choose (eqt (cell4 shift_cells k) "") (class_at k) (get_or shift_classes (row_with k (bit_b (class_at k) quad k)) Right)

pub same_class : (quad : Bool) (k : ℕ) → k < 256 → eqt (cell4 shift_cells k) "" ≡ false → get_or shift_classes (row_with k (bit_b (class_at k) quad k)) Right ≡ class_at k
unfolding values shift_rows shift_cells shift_classes
same_class true k h e = rw e at (agree (reclassed true) class_at 256 refl k h)
same_class false k h e = rw e at (agree (reclassed false) class_at 256 refl k h)

-- the names: none is VORR, and those of the lengthening rows are VMOVL's by 0
pub no-vorr : (k : ℕ) → k < 256 → eqt (cell4 shift_cells k) "vorr" ≡ false
unfolding values shift_rows shift_cells
no-vorr = agree (λ (k : ℕ). eqt (cell4 shift_cells k) "vorr") (λ (k : ℕ). false) 256 refl

pub moved-name : (k : ℕ) → k < 256 → moved_name (cell4 shift_cells k) ≡ choose (is_long (class_at k)) (cell_at vmovl (bit 7 k) (k % 4)) ""
unfolding values shift_rows shift_cells shift_classes vmovl
moved-name = agree (λ (k : ℕ). moved_name (cell4 shift_cells k)) (λ (k : ℕ). choose (is_long (class_at k)) (cell_at vmovl (bit 7 k) (k % 4)) "") 256 refl

pub moved-filled : (k : ℕ) → k < 256 → eqt (cell4 shift_cells k) "" ≡ false → is_long (class_at k) ≡ true → eqt (cell_at vmovl (bit 7 k) (k % 4)) "" ≡ false
unfolding values shift_rows shift_cells shift_classes vmovl
moved-filled k h e l =
    rw (e, l) at
    (agree (λ (k : ℕ). choose (eqt (cell4 shift_cells k) "") false (choose (is_long (class_at k)) (eqt (cell_at vmovl (bit 7 k) (k % 4)) "") false)) (λ (k : ℕ). false) 256 refl k h)

-- the lengths of a row's registers go by its class, or by the bit at B
pub length-d : (class : ShiftClass) (quad : Bool) (k : ℕ) → (class_lengths class (is_set (bit_b class quad k))).d ≡ (class_lengths class quad).d
length-d Right quad k = bit-set quad
length-d Left quad k = bit-set quad
length-d Narrow quad k = refl
length-d Long quad k = refl
length-d Convert quad k = bit-set quad

pub length-m : (class : ShiftClass) (quad : Bool) (k : ℕ) → (class_lengths class (is_set (bit_b class quad k))).m ≡ (class_lengths class quad).m
length-m Right quad k = bit-set quad
length-m Left quad k = bit-set quad
length-m Narrow quad k = refl
length-m Long quad k = refl
length-m Convert quad k = bit-set quad

pub b-small : (class : ShiftClass) (quad : Bool) (k : ℕ) → bit_b class quad k < 2
b-small Right quad k = bit-small quad
b-small Left quad k = bit-small quad
b-small Narrow quad k = omega arith
b-small Long quad k = omega arith
b-small Convert quad k = bit-small quad

-- a row's operands: a lengthening by 0 has two
pub by-class : (class : ShiftClass) (mnemonic moved : ℕ) (quad : Bool) (k d m address : ℕ) → both (is_long class) (eqb k 0) ≡ false
    → shifted class mnemonic moved quad k d m address ≡ Read.three mnemonic T1 address (vec_of (class_lengths class quad).d d) (vec_of (class_lengths class quad).m m) (amount k)
unfolding shifted is_long_by_zero
by-class Right mnemonic moved quad k d m address e = refl
by-class Left mnemonic moved quad k d m address e = refl
by-class Narrow mnemonic moved quad k d m address e = refl
by-class Long mnemonic moved quad k d m address e = rw e
by-class Convert mnemonic moved quad k d m address e = refl

pub by_zero : (class : ShiftClass) (mnemonic moved : ℕ) (quad : Bool) (k d m address : ℕ) → both (is_long class) (eqb k 0) ≡ true
    → shifted class mnemonic moved quad k d m address ≡ Read.two moved T1 address (vec_of (class_lengths class quad).d d) (vec_of (class_lengths class quad).m m)
unfolding shifted is_long_by_zero
by_zero Right mnemonic moved quad k d m address e = never (cc)
by_zero Left mnemonic moved quad k d m address e = never (cc)
by_zero Narrow mnemonic moved quad k d m address e = never (cc)
by_zero Long mnemonic moved quad k d m address e = rw e
by_zero Convert mnemonic moved quad k d m address e = never (cc)

-- a reading, by its fields
pub fields : (hw1 hw2 address u row l imm6 d m : ℕ) (quad : Bool) → ImmediateBits hw1 hw2 false
    → bit 12 hw1 * 32 + field 11 8 hw2 * 2 + bit 6 hw2 ≡ row → bit 12 hw1 ≡ u → is_set (bit 6 hw2) ≡ quad → bit 7 hw2 ≡ l → field 5 0 hw1 ≡ imm6
    → dnum_of (bit 6 hw1) (field 15 12 hw2) ≡ d → dnum_of (bit 5 hw2) (field 3 0 hw2) ≡ m
    → reading hw1 hw2 address ≡ shift_of (get_or shift_classes row Right) u row quad l imm6 d m address
unfolding reading in_family shift_reading
fields hw1 hw2 address u row l imm6 d m quad f er eu eq el ei ed em = rw (to-shift hw1 hw2 f, er, eu, eq, el, ei, ed, em)
