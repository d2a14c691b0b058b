-- What a place op:cmode:imm8 is read as with a register, and what the step of its pair leaves.
-- Assumes nothing.
use mathlib.Core.Path.{◌≡◌, refl, sym, ap, ◌∙◌}
use mathlib.Core.Bool.{Bool, true, false}
use Prim.Native.Nat.{ℕ, ◌-◌, ◌^◌, ◌<◌}
use native.Mathlib.Nat.{add-zero}
use native.Mathlib.Omega.{arith}
use lib.ListN.{set}
use Rattle.laws.specs.Answer.{Answer, accepted}
use Rattle.laws.specs.Choice.{choose}
use Rattle.laws.proofs.Range.{values, agree2}
use Rattle.insn.specs.declared.Insn.{Insn}
use Rattle.insn.specs.declared.Operand.{Operand}
use Rattle.tables.specs.Cells.{cell_at}
use Rattle.immediate_tables.specs.Modimm.{modimm}
use Rattle.fields.specs.Halfwords.{bit, field}
use Rattle.immediates.specs.Modified.{copies, expand_imm}
use Rattle.readings.specs.Operands as Read
use Rattle.read_immediates.specs.Modimm.{modimm_of}
use Rattle.writings.specs.Forms.{pair}
use Rattle.write_immediates.specs.Modimm.{modimm_pair}
use Rattle.trips.proofs.RoundModimm.{pair_reads}
use Rattle.operations.specs.declared.ConstantOp.TheVariants.{Mov, Mvn}
use Rattle.operations.specs.declared.Operation.TheVariants.{Constant}
use Rattle.operations.specs.Operations.{with_constant, result_of}
use Rattle.forms.specs.Forms.{groups, named_forms, form_of}
use Rattle.meanings.specs.Meaning.{Act, act, registers, meaning_of}
use Rattle.meanings.proofs.Actions.{meant}
use Rattle.read_meanings.specs.Constants.{op_at, Expands}
use Rattle.read_meanings.proofs.Constants.{cell-expands}
use Rattle.effects.specs.File.{File}
use Rattle.effects.specs.Effect.{effect}
use Rattle.effects.proofs.Effects.{word-effect}
use Rattle.machine.specs.State.{State, state}
use Rattle.machine.specs.Step.{step_by, step_read, step_pair}
use Rattle.machine.proofs.Unmarked.{quietly}
use Rattle.one_pair.specs.One.{begins, setting, leaves}
use Rattle.one_pair.proofs.Rows.{One, plain}
use Rattle.recipes.specs.Pairs.{record_at}
use Rattle.recipes.proofs.Places.{Read as IsRead, Register, place-writes}
use Rattle.recipes.proofs.Writes.{Writes}

-- the pattern of a place that has one
abbrev pub pattern_at : ℕ → ℕ
pattern_at t = plain (expand_imm (bit 12 t) (field 11 8 t) (field 7 0 t))

pub pattern-at : (t p : ℕ) → expand_imm (bit 12 t) (field 11 8 t) (field 7 0 t) ≡ accepted p
    → expand_imm (bit 12 t) (field 11 8 t) (field 7 0 t) ≡ accepted (pattern_at t)
pattern-at t p e = e ∙ ap accepted (sym (ap plain e))

module _ {quad : Bool} {x : Operand} {d t : ℕ} (i : Register quad x d) (p : IsRead t) where
  -- it is read
  pub place_read : modimm_of (bit 12 t) (field 11 8 t) (field 7 0 t) quad d 0 ≡ accepted (record_at x t)
  unfolding modimm_of Read.two
  place_read = rw (p.filled, p.zero, i.vec)

  expands : Expands (bit 12 t) (field 11 8 t) (field 7 0 t) quad d (record_at x t)
  expands = cell-expands (bit 12 t) (field 11 8 t) (field 7 0 t) quad d 0 (omega arith) (omega arith) (omega arith) (record_at x t) i.small place_read

  module _ (q : ℕ) (e : expand_imm (bit 12 t) (field 11 8 t) (field 7 0 t) ≡ accepted q) where
    abbrev does : Act
    does = act (Constant (op_at (bit 12 t) (field 11 8 t)) q) (registers quad d d d)

    -- it means its cell's operation, with its pattern
    place-means : meaning_of (record_at x t) ≡ accepted does
    place-means =
        let same : expands.pattern ≡ q = cc (sym expands.expanded ∙ e) in
        expands.meant ∙ ap (λ (p : ℕ). accepted (act (Constant (op_at (bit 12 t) (field 11 8 t)) p) (registers quad d d d))) same

    pub place-small : q < 2 ^ 64
    place-small = (meant (record_at x t) does place-means).sound

    -- and the step of its pair is that
    pub pair-steps : (hw1 hw2 : ℕ) → modimm_pair t quad d ≡ pair hw1 hw2 → (s : State) → step_pair hw1 hw2 s ≡ accepted (state (effect does s.file) s.mark)
    unfolding step_read step_by
    pair-steps hw1 hw2 k s =
        ap (λ (a : Answer Insn). step_read a s) (pair_reads t d quad p.within i.small hw1 hw2 0 k ∙ place_read)
        ∙ ap (λ (a : Answer Act). step_by a s) place-means
        ∙ ap accepted (quietly (Constant (op_at (bit 12 t) (field 11 8 t)) q) (registers quad d d d) s (λ z n m. refl))

    pub place-steps : (w : Writes (record_at x t)) (s : State) → step_pair w.hw1 w.hw2 s ≡ accepted (state (effect does s.file) s.mark)
    place-steps w s = pair-steps w.hw1 w.hw2 (cc (sym (place-writes i p) ∙ w.wrote)) s

-- a cell of a VMOV sets its pattern, and a cell of a VMVN the complement
set-op : (o c : ℕ) → o < 2 → c < 16
    → choose (setting (cell_at modimm o c)) (op_at o c) Mov ≡ choose (setting (cell_at modimm o c)) (choose (begins (cell_at modimm o c) "vmvn") Mvn Mov) Mov
unfolding values modimm groups named_forms form_of
set-op =
    agree2 (λ (o c : ℕ). choose (setting (cell_at modimm o c)) (op_at o c) Mov)
    (λ (o c : ℕ). choose (setting (cell_at modimm o c)) (choose (begins (cell_at modimm o c) "vmvn") Mvn Mov) Mov) 2 16 refl

constant-set : (b : Bool) (p d : ℕ) → with_constant 64 (choose b Mvn Mov) (copies 1 64 p) d ≡ choose b (2 ^ 64 - 1 - p) p
constant-set true p d = rw add-zero
constant-set false p d = rw add-zero

-- so that a doubleword is what is left of the pattern
pub setting-word : (o c p d : ℕ) → o < 2 → c < 16 → setting (cell_at modimm o c) ≡ true → (n m : ℕ) → result_of 64 (Constant (op_at o c) p) d n m ≡ leaves (cell_at modimm o c) p
unfolding result_of
setting-word o c p d ho hc named n m =
    let its-op = rw named at (set-op o c ho hc) in
    rw its-op (constant-set (begins (cell_at modimm o c) "vmvn") p d)

pub setting-effect : (o c p d : ℕ) (file : File) → o < 2 → c < 16 → setting (cell_at modimm o c) ≡ true
    → effect (act (Constant (op_at o c) p) (registers false d d d)) file ≡ set file d (leaves (cell_at modimm o c) p)
setting-effect o c p d file ho hc named = rw (word-effect (Constant (op_at o c) p) file d d d, setting-word o c p _ ho hc named _ _)

-- the one pair of a half
pub one-effect : (r v t : ℕ) → t < 8192 → One v (bit 12 t) (field 11 8 t) (field 7 0 t) → (file : File)
    → effect (act (Constant (op_at (bit 12 t) (field 11 8 t)) (pattern_at t)) (registers false r r r)) file ≡ set file r v
one-effect r v t h one file =
    setting-effect (bit 12 t) (field 11 8 t) (pattern_at t) r file (omega arith) (omega arith) one.named
    ∙ ap (set file r) (ap (leaves (cell_at modimm (bit 12 t) (field 11 8 t))) (ap plain one.expanded) ∙ one.left)
