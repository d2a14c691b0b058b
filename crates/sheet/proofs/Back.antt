-- A record that is written does, as a pair, what it does as a record: demand 2 over meanings.
-- Assumes nothing.
use mathlib.Core.Path.{◌≡◌, refl, sym, ap, ◌∙◌}
use mathlib.Core.Bool.{Bool, true, false}
use Prim.Native.Nat.{ℕ}
use lib.Text.{eqt}
use Rattle.laws.specs.Answer.{Answer, accepted}
use Rattle.insn.specs.declared.Edition.TheVariants.{C}
use Rattle.insn.specs.declared.Insn.{Insn}
use Rattle.insn.specs.declared.Mark.{Mark}
use Rattle.insn.specs.declared.Mark.TheVariants.{T1}
use Rattle.insn.specs.declared.Operand.{Operand}
use Rattle.insn.specs.declared.Operand.TheVariants.{Absent}
use Rattle.insn.specs.Record.{place_at}
use Rattle.names.specs.Names.{names, name_of, number_of}
use Rattle.readings.specs.Operands.{insn}
use Rattle.laws.specs.Choice.{both}
use Rattle.writings.specs.Forms.{pair}
use Rattle.trips.specs.Spelling.{Spelling, Held, spelled, same_register, moved_name, renamed, canonical}
use Rattle.encode.specs.Writing.{writing}
use Rattle.trips.proofs.Canonical.{spelt, as-spelt, as-vmov}
use Rattle.trips.proofs.Promises.{written_then_read}
use Rattle.trips.proofs.Registers.{same-register}
use Rattle.laws.proofs.Tests.{both_true, same_text}
use Rattle.machine.specs.State.{State}
use Rattle.meanings.specs.Meaning.{meaning_of}
use Rattle.machine.specs.Step.{step_insn, step_read, step_pair}
use Rattle.machine.proofs.Promises.{copy_alias}

vmov-name : name_of (number_of "vmov") ≡ "vmov"
unfolding names name_of number_of
vmov-name = refl

-- VSHLL alone has another name where it is read back
module _ (m : ℕ) (x y z : Operand) (plain : eqt (moved_name (name_of m)) "" ≡ true) where
  -- the step of a spelling, whatever the record's mark
  abbrev step_of : Mark → State → Spelling → Answer State
  step_of mark s p = step_insn (spelled p mark 0) s

  three-step : (mark : Mark) (s : State) → step_of mark s (canonical (spelt m 3 x y z)) ≡ step_insn (insn m T1 0 3 x y z) s
  unfolding meaning_of
  three-step mark s = go (both (eqt (name_of m) "vorr") (same_register y z)) refl
    where
      go : (b : Bool) → both (eqt (name_of m) "vorr") (same_register y z) ≡ b
          → step_of mark s (canonical (spelt m 3 x y z)) ≡ step_insn (insn m T1 0 3 x y z) s
      go true e =
          let p = both_true (eqt (name_of m) "vorr") (same_register y z) e in
          let j : Insn = spelled (renamed "vmov" (spelt m 3 x y z)) mark 0 in
          ap (step_of mark s) (as-vmov m 3 x y z refl e)
          ∙ sym (copy_alias (insn m T1 0 3 x y z) j s (same_text (name_of m) "vorr" p.0) refl (same-register y z p.1) vmov-name refl refl refl)
      go false e = ap (step_of mark s) (as-spelt m 3 x y z e (rw plain))

  two-step : eqt (name_of m) "vorr" ≡ false → (mark : Mark) (s : State)
      → step_of mark s (canonical (spelt m 2 x y Absent)) ≡ step_insn (insn m T1 0 2 x y Absent) s
  unfolding meaning_of
  two-step other mark s = ap (step_of mark s) (as-spelt m 2 x y Absent (rw other) (rw plain))

  module _ (hw1 hw2 : ℕ) (held : Held y) (s : State) where
    pub three_back : writing (insn m T1 0 3 x y z) ≡ accepted (pair hw1 hw2) → step_pair hw1 hw2 s ≡ step_insn (insn m T1 0 3 x y z) s
    unfolding place_at step_read
    three_back e =
        let r = written_then_read C (insn m T1 0 3 x y z) hw1 hw2 0 held e in
        ap (λ (a : Answer Insn). step_read a s) r.read ∙ three-step r.mark s

    pub two_back : eqt (name_of m) "vorr" ≡ false → writing (insn m T1 0 2 x y Absent) ≡ accepted (pair hw1 hw2)
        → step_pair hw1 hw2 s ≡ step_insn (insn m T1 0 2 x y Absent) s
    unfolding place_at step_read
    two_back other e =
        let r = written_then_read C (insn m T1 0 2 x y Absent) hw1 hw2 0 held e in
        ap (λ (a : Answer Insn). step_read a s) r.read ∙ two-step other r.mark s
