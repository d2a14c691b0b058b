-- Records one after another: their halfwords, and what these do to a state.
-- Assumes nothing.
use mathlib.Core.Path.{◌≡◌, refl}
use mathlib.Core.List.{List, [], ◌∷◌, ◌++◌}
use Prim.Native.Nat.{ℕ, zero, suc}
use lib.ListN.{length}
use Rattle.laws.specs.Answer.{accepted}
use Rattle.insn.specs.declared.Insn.{Insn}
use Rattle.effects.specs.File.{File, Good}
use Rattle.meanings.specs.Meaning.{Act}
use Rattle.meanings.proofs.Actions.{Sound}
use Rattle.machine.specs.State.{State, state}
use Rattle.runs.specs.Run.{run_by, steps_by, run_pairs, machine_steps}
use Rattle.effects.specs.Effect.{effect}
use Rattle.effects.proofs.Effects.{effect-good}
use Rattle.recipes.specs.Pairs.{halfwords_of}
use Rattle.sheet.proofs.Executes.{Executes}

-- what operations leave, one after another
unfoldable pub doing : List Act → File → File
doing [] file = file
doing (x ∷ acts) file = doing acts (effect x file)

-- records whose pairs do these operations
abbrev pub Does : List Insn → List Act → Type 0
Does [] [] = Unit {0}
Does [] (x ∷ acts) = ⊥
Does (i ∷ is) [] = ⊥
Does (i ∷ is) (x ∷ acts) = Executes i x × (Sound x × Does is acts)

pub does-append : (is js : List Insn) (xs ys : List Act) → Does is xs → Does js ys → Does (is ++ js) (xs ++ ys)
does-append [] js [] ys p q = q
does-append [] js (x ∷ xs) ys p q = absurd p
does-append (i ∷ is) js [] ys p q = absurd p
does-append (i ∷ is) js (x ∷ xs) ys p q = (p.0, (p.1.0, does-append is js xs ys p.1.1 q))

pub doing-cons : (x : Act) (xs : List Act) (file : File) → doing (x ∷ xs) file ≡ doing xs (effect x file)
unfolding doing
doing-cons x xs file = refl

pub doing-nil : (file : File) → doing [] file ≡ file
unfolding doing
doing-nil file = refl

pub doing-append : (xs ys : List Act) (file : File) → doing (xs ++ ys) file ≡ doing ys (doing xs file)
unfolding doing
doing-append [] ys file = refl
doing-append (x ∷ xs) ys file = doing-append xs ys (effect x file)

-- the file stays 32 numbers of 64 bits
pub doing-good : (is : List Insn) (xs : List Act) (file : File) → Does is xs → Good file → Good (doing xs file)
unfolding doing
doing-good [] [] file d g = g
doing-good [] (x ∷ xs) file d g = absurd d
doing-good (i ∷ is) [] file d g = absurd d
doing-good (i ∷ is) (x ∷ xs) file d g = doing-good is xs (effect x file) d.1.1 (effect-good x file d.1.0 g)

-- a machine step a record
pub code-steps : (is : List Insn) (xs : List Act) (s : State) → Does is xs
    → machine_steps (length is) (halfwords_of is) s ≡ accepted (state (doing xs s.file) s.mark)
unfolding halfwords_of steps_by doing
code-steps [] [] s d = refl
code-steps [] (x ∷ xs) s d = absurd d
code-steps (i ∷ is) [] s d = absurd d
code-steps (i ∷ is) (x ∷ xs) s d = rw (d.0.writes.wrote, d.0.stepped s) (code-steps is xs (state (effect x s.file) s.mark) d.1.1)

-- with any budget, the run of their pairs leaves the mark as it was
pub run-unmarked : (is : List Insn) (xs : List Act) (budget : ℕ) (s : State) → Does is xs → (run_pairs (halfwords_of is) budget s).state.mark ≡ s.mark
unfolding halfwords_of run_by
run-unmarked [] [] budget s d = refl
run-unmarked [] (x ∷ xs) budget s d = absurd d
run-unmarked (i ∷ is) [] budget s d = absurd d
run-unmarked (i ∷ is) (x ∷ xs) zero s d = rw d.0.writes.wrote
run-unmarked (i ∷ is) (x ∷ xs) (suc budget) s d =
    rw (d.0.writes.wrote, d.0.stepped s) (run-unmarked is xs budget (state (effect x s.file) s.mark) d.1.1)
