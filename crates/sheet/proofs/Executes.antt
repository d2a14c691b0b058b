-- Records whose pair does an operation on registers.
-- Assumes nothing.
use mathlib.Core.Path.{◌≡◌, refl, ap, ◌∙◌, subst}
use mathlib.Core.Bool.{Bool, true, false}
use Prim.Native.Nat.{ℕ, ◌*◌, ◌≤◌, ◌<◌}
use Prim.Native.String.{String}
use lib.IntN.{pos}
use lib.Text.{eqt}
use borrow.Author.Tests.{lt-ltb, le-leb}
use Rattle.laws.specs.Answer.{accepted}
use Rattle.insn.specs.declared.Insn.{Insn}
use Rattle.insn.specs.declared.Operand.{Operand}
use Rattle.insn.specs.declared.Operand.TheVariants.{D, Q, Imm, Absent}
use Rattle.insn.specs.Record.{place_at}
use Rattle.homes.specs.declared.Home.TheVariants.{Same3, Shift}
use Rattle.tables.specs.declared.ShiftClass.{ShiftClass}
use Rattle.names.specs.Names.{number_of}
use Rattle.fields.specs.Registers.{bits, vec_bits}
use Rattle.fields.specs.Halfwords.{bit, field}
use Rattle.immediates.specs.Modified.{expand_imm}
use Rattle.amount_values.specs.Amounts.{amount_in}
use Rattle.trips.specs.Spelling.{Held, moved_name}
use Rattle.insn.specs.declared.Width.{Width}
use Rattle.operations.specs.declared.BitOp.TheVariants.{Mov}
use Rattle.operations.specs.declared.ConstantOp.{ConstantOp}
use Rattle.operations.specs.declared.Operation.{Operation}
use Rattle.marks.proofs.Quiet.{Quiet}
use Rattle.operations.specs.declared.Operation.TheVariants.{Bits as Bitwise, Constant}
use Rattle.forms.specs.declared.Direction.{Direction}
use Rattle.forms.specs.declared.Form.{Form}
use Rattle.forms.specs.declared.Form.TheVariants as form
use Rattle.machine.specs.State.{State, state}
use Rattle.machine.proofs.Unmarked.{quietly}
use Rattle.forms.specs.Forms.{form_of}
use Rattle.meanings.specs.Meaning.{Act, act, registers, on, whole_pattern, shifting, count_of, meaning_in, meaning_of}
use Rattle.meanings.proofs.Actions.{on_alike}
use Rattle.effects.specs.Effect.{effect}
use Rattle.machine.specs.Step.{step_by, step_pair}
use Rattle.recipes.specs.Pairs.{immediate, two_of, three_of, record_at}
use Rattle.recipes.proofs.Names.{Known, Classed, copy-known}
use Rattle.recipes.proofs.Writes.{Writes, Is, quad_is, double-is, Alike, three-writes, copy_writes, shift-writes}
use Rattle.recipes.proofs.Places.{Read, Register, Standing, placed}
use Rattle.read_meanings.specs.Constants.{op_at}
use Rattle.halves.proofs.Places.{place-steps}
use Rattle.sheet.proofs.Back.{three_back, two_back}
use Rattle.laws.proofs.Signed.{modulo-pos}
use native.Mathlib.Omega.{arith}

-- a record is written as a pair, and the pair's step is the act's effect, with the mark as it was
pub record Executes (i : Insn) (x : Act) : Type 0 where
  pub writes : Writes i
  pub stepped : (s : State) → step_pair writes.hw1 writes.hw2 s ≡ accepted (state (effect x s.file) s.mark)

-- an operand that is register number d, written and read
pub record Stands (quad : Bool) (x : Operand) (d : ℕ) : Type 0 where
  pub is : Is quad x d
  pub numbered : vec_bits x ≡ accepted (bits quad d)
  pub held : Held x

pub quad-stands : (t : ℕ) → t < 16 → Stands true (Q t) (2 * t)
unfolding vec_bits
quad-stands t h = record { is = quad_is t h; numbered = rw (lt-ltb t 16 h); held = tt }

pub double-stands : (r : ℕ) → r < 32 → Stands false (D r) r
unfolding vec_bits
double-stands r h = record { is = double-is r h; numbered = rw (lt-ltb r 32 h); held = tt }

-- three registers of one length
acts : {q : Bool} {x y z : Operand} {d n m : ℕ} (op : Operation) → Stands q x d → Stands q y n → Stands q z m → on op x y z ≡ accepted (act op (registers q d n m))
acts {q} {x} {y} {z} {d} {n} {m} op ix iy iz = on_alike op x y z q d n m ix.numbered iy.numbered iz.numbered

-- what a name means; VSHLL alone has another name where it is read back
pub record Means (name : String) (f : Form) : Type 0 where
  pub plain : eqt (moved_name name) "" ≡ true
  pub formed : form_of name ≡ f

module _ {q : Bool} {x y z : Operand} {d n m : ℕ} (ix : Stands q x d) (iy : Stands q y n) (iz : Stands q z m) where
  pub three-executes : {name : String} {number cell : ℕ} {f : Form} (op : Operation) → Quiet op → Known false name number (Same3 cell) → Means name f → count_of f ≡ 3
      → meaning_in f x y z ≡ on op x y z → Executes (three_of name x y z) (act op (registers q d n m))
  unfolding place_at meaning_of step_by
  three-executes {name} op quiet k means counted meant =
      let w = three-writes ix.is iy.is iz.is k in
      record {
        writes = w;
        stepped = λ s. three_back (number_of name) x y z (rw k.back means.plain) w.hw1 w.hw2 iy.held s w.wrote
            ∙ rw (k.back, means.formed, counted, meant, acts op ix iy iz) (ap accepted (quietly op (registers q d n m) s quiet));
      }

-- VMOV of a register
pub copy-executes : Means "vmov" form.Copy → {q : Bool} {x y : Operand} {d n : ℕ} → Stands q x d → Stands q y n
    → Executes (two_of "vmov" x y) (act (Bitwise Mov) (registers q d n n))
unfolding place_at meaning_of meaning_in step_by
copy-executes means {q} {x} {y} {d} {n} ix iy =
    let w = copy_writes ix.is iy.is in
    record {
      writes = w;
      stepped = λ s. two_back (number_of "vmov") x y Absent (rw copy-known.back means.plain) w.hw1 w.hw2 iy.held s (rw copy-known.back) w.wrote
          ∙ rw (copy-known.back, means.formed, acts (Bitwise Mov) ix iy iy) (ap accepted (quietly (Bitwise Mov) (registers q d n n) s (λ z n m. refl)));
    }

-- a shift by a number, of registers of one length
pub shift-executes : {q : Bool} {x y : Operand} {d n : ℕ} {name : String} {class : ShiftClass} {number column cell : ℕ} {way : Direction} {w : Width} (op : Operation) (k amount : ℕ) → Quiet op
    → Stands q x d → Stands q y n → Known true name number (Shift cell) → Classed class column cell → Means name (form.Shift way w) → Alike class → k ≤ 64
    → amount_in class column (Imm (pos k)) ≡ accepted amount → shifting way w k x y ≡ on op x y y
    → Executes (three_of name x y (Imm (pos k))) (act op (registers q d n n))
unfolding place_at meaning_of meaning_in whole_pattern step_by
shift-executes {q} {x} {y} {d} {n} {name} {class} {number} {column} {cell} {way} {w} op k amount quiet ix iy known classed means same h found meant =
    let p = shift-writes k amount ix.is iy.is known classed same found in
    record {
      writes = p;
      stepped = λ s. three_back (number_of name) x y (Imm (pos k)) (rw known.back means.plain) p.hw1 p.hw2 iy.held s p.wrote
          ∙ rw (known.back, means.formed, modulo-pos 64 k (omega arith), le-leb k 64 h, meant, acts op ix iy iy) (ap accepted (quietly op (registers q d n n) s quiet));
    }

-- a place op:cmode:imm8 that is read
pub place-executes : {quad : Bool} {x : Operand} {d t : ℕ} (op : ConstantOp) (p : ℕ) → Register quad x d → Read t → op_at (bit 12 t) (field 11 8 t) ≡ op
    → expand_imm (bit 12 t) (field 11 8 t) (field 7 0 t) ≡ accepted p → Executes (record_at x t) (act (Constant op p) (registers quad d d d))
place-executes {quad} {x} {d} {t} op p i r same e =
    record {
      writes = placed i r;
      stepped = λ s. rw (← same) (place-steps i r p e (placed i r) s);
    }

-- a name with a number that stands there
pub standing-executes : {quad : Bool} {x : Operand} {d t v p : ℕ} {name : String} (op : ConstantOp) → Register quad x d → Standing t name v p
    → op_at (bit 12 t) (field 11 8 t) ≡ op → Executes (two_of name x (immediate v)) (act (Constant op p) (registers quad d d d))
standing-executes {quad} {x} {d} {t} {v} {p} op i s same =
    subst (λ (j : Insn). Executes j (act (Constant op p) (registers quad d d d))) (s.spelled x) (place-executes op p i s.read same s.expanded)
