-- Records that are written as a pair.
-- Assumes nothing.
use mathlib.Core.Path.{◌≡◌, refl}
use mathlib.Core.Bool.{Bool, true, false}
use mathlib.Core.List.{List, [], ◌∷◌, ◌++◌}
use Prim.Native.Nat.{ℕ, ◌*◌, ◌<◌}
use Prim.Native.String.{String}
use native.Mathlib.Omega.{arith}
use lib.IntN.{pos}
use lib.ListN.{length}
use borrow.Author.Tests.{lt-ltb}
use Rattle.laws.specs.Answer.{accepted}
use Rattle.laws.specs.Choice.{choose}
use Rattle.insn.specs.declared.Insn.{Insn}
use Rattle.insn.specs.declared.Operand.{Operand}
use Rattle.insn.specs.declared.Operand.TheVariants.{D, Q, Imm}
use Rattle.insn.specs.Record.{place_at}
use Rattle.homes.specs.declared.Home.TheVariants.{Same3, Shift}
use Rattle.tables.specs.declared.ShiftClass.{ShiftClass}
use Rattle.names.specs.Names.{pairwise}
use Rattle.fields.specs.Halfwords.{field}
use Rattle.fields.specs.Registers.{vec_bits}
use Rattle.read_registers.specs.Same3.{shifts_by_register}
use Rattle.writings.specs.Forms.{Pair, pair, is_quad, is_number, register_in, all_three}
use Rattle.write_registers.specs.Same3.{same3_pair, same3_form, same3_writing, vorr_cell, vmov_writing}
use Rattle.write_immediates.specs.Shift.{bit_b, shift_pair, shift_classed}
use Rattle.amount_values.specs.Amounts.{amount_in}
use Rattle.encode.specs.Writing.{writing}
use Rattle.laws.proofs.Tests.{both-no}
use Rattle.recipes.specs.Pairs.{halfwords_of, two_of, three_of}
use Rattle.recipes.proofs.Names.{Known, copy-known, orr-known, Classed}
use Rattle.tables.specs.Lengths.{class_lengths}

pub record Writes (i : Insn) : Type 0 where
  pub hw1 : ℕ
  pub hw2 : ℕ
  pub wrote : writing i ≡ accepted (pair hw1 hw2)

pub wrote_as : (i : Insn) (p : Pair) → writing i ≡ accepted p → Writes i
wrote_as i (pair a b) e = record { hw1 = a; hw2 = b; wrote = e }

-- an operand that is register number d
pub record Is (quad : Bool) (x : Operand) (d : ℕ) : Type 0 where
  pub length : is_quad x ≡ quad
  pub place : register_in quad x ≡ accepted d
  pub register : is_number x ≡ false

pub quad_is : (t : ℕ) → t < 16 → Is true (Q t) (2 * t)
unfolding vec_bits register_in
quad_is t h = record { length = refl; place = rw (lt-ltb t 16 h); register = refl }

pub double-is : (r : ℕ) → r < 32 → Is false (D r) r
unfolding vec_bits register_in
double-is r h = record { length = refl; place = rw (lt-ltb r 32 h); register = refl }

module _ {q : Bool} {x y z : Operand} {d n m : ℕ} (ix : Is q x d) (iy : Is q y n) (iz : Is q z m) where
  same3-wrote : (cell : ℕ) (name : String) → pairwise name ≡ false
      → same3_writing cell name 3 x y z ≡ accepted (choose (shifts_by_register (field 6 3 cell)) (same3_pair cell q d m n) (same3_pair cell q d n m))
  unfolding same3_writing same3_form all_three
  same3-wrote cell name one = rw (ix.length, ix.place, iy.place, iz.place, one, both-no q)

  pub three-writes : {name : String} {number cell : ℕ} → Known false name number (Same3 cell) → Writes (three_of name x y z)
  unfolding writing place_at
  three-writes {name} {number} {cell} k =
      wrote_as (three_of name x y z) (choose (shifts_by_register (field 6 3 cell)) (same3_pair cell q d m n) (same3_pair cell q d n m))
      (rw (k.back, iz.register, k.placed, same3-wrote cell name k.single))

-- VMOV of a register
pub copy_writes : {q : Bool} {x y : Operand} {d n : ℕ} → Is q x d → Is q y n → Writes (two_of "vmov" x y)
unfolding writing vmov_writing place_at
copy_writes {q} {x} {y} {d} {n} ix iy =
    wrote_as (two_of "vmov" x y) (same3_pair vorr_cell q d n n) (rw (copy-known.back, copy-known.placed, same3-wrote ix iy iy vorr_cell "vorr" orr-known.single))

-- a row whose registers are alike
abbrev pub Alike : ShiftClass → Type 0
Alike class = (q : Bool) → ((class_lengths class q).d ≡ q) × ((class_lengths class q).m ≡ q)

-- a shift by a number
pub shift-writes : {q : Bool} {x y : Operand} {d n : ℕ} {name : String} {class : ShiftClass} {number column cell : ℕ} (k amount : ℕ)
    → Is q x d → Is q y n → Known true name number (Shift cell) → Classed class column cell → Alike class → amount_in class column (Imm (pos k)) ≡ accepted amount
    → Writes (three_of name x y (Imm (pos k)))
unfolding writing shift_classed all_three place_at
shift-writes {q} {x} {y} {d} {n} {name} {class} {number} {column} {cell} k amount ix iy known classed same found =
    wrote_as (three_of name x y (Imm (pos k))) (shift_pair cell (bit_b class q cell) amount d n)
    (rw (known.back, known.placed, classed.class_of, classed.column-of, ix.length, (same q).0, (same q).1, ix.place, iy.place, found))

-- records that are all written
abbrev pub Written : List Insn → Type 0
Written [] = Unit {0}
Written (i ∷ is) = Writes i × Written is

pub written-append : (is js : List Insn) → Written is → Written js → Written (is ++ js)
written-append [] js p q = q
written-append (i ∷ is) js p q = (p.0, written-append is js p.1 q)

-- two halfwords a record
pub written-length : (is : List Insn) → Written is → length (halfwords_of is) ≡ 2 * length is
unfolding halfwords_of
written-length [] p = refl
written-length (i ∷ is) p = rw p.0.wrote (omega (arith, written-length is p.1))
