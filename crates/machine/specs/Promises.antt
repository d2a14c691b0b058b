-- Promises beyond the contracts; proofs/Promises.antt proves each under its name.
-- Assumes nothing.
use Rattle.std.specs.Prelude.{Bool, true, false, ◌≢◌, ◌≡◌, ℕ, ◌+◌, pos, Result}
use Rattle.laws.specs.Answer.{accepted}
use Rattle.insn.specs.declared.Insn.{Insn}
use Rattle.insn.specs.declared.Refusal.{Refusal}
use Rattle.insn.specs.declared.Operand.TheVariants.{Imm}
use Rattle.insn.specs.declared.Sign.{Sign}
use Rattle.insn.specs.declared.Width.{Width}
use Rattle.names.specs.Names.{name_of}
use Rattle.fields.specs.Registers.{bits, vec_bits}
use Rattle.decode.specs.Reading.{reading}
use Rattle.operations.specs.declared.Operation.{Operation}
use Rattle.marks.specs.Promises.{MovedLane}
use Rattle.forms.specs.declared.Direction.TheVariants.{Long}
use Rattle.forms.specs.declared.Form.TheVariants.{Shift, Extend}
use Rattle.forms.specs.Forms.{form_of}
use Rattle.meanings.specs.declared.Registers.{Registers}
use Rattle.meanings.specs.Meaning.{act, meaning_of}
use Rattle.machine.specs.State.{State}
use Rattle.machine.specs.Answers.{outcome_answer}
use Rattle.effects.specs.declared.State.{State as Left}
use Rattle.effects.specs.File.{File, Good, read_d, register_bits, read_r}
use Rattle.machine.specs.Step.{step_insn, step_pair}

-- a step keeps the file: 32 numbers of 64 bits
abbrev pub FileKept : Type 0
FileKept = (i : Insn) (s next : State) → Good s.file → step_insn i s ≡ accepted next → Good next.file

-- it changes only the doublewords of the first operand
abbrev pub OnlyTarget : Type 0
OnlyTarget =
    (i : Insn) (s next : State) (quad : Bool) (d k : ℕ) → step_insn i s ≡ accepted next → vec_bits i.first ≡ accepted (bits quad d)
    → k ≢ d → (quad ≡ true → k ≢ d + 1) → read_d next.file k ≡ read_d s.file k

-- a pair is read as a saturating operation on these registers, and moves a lane of them in this file
pub record PairMoves (hw1 hw2 : ℕ) (file : File) : Type 0 where
  pub insn : Insn
  pub op : Operation
  pub registers : Registers
  pub read : reading hw1 hw2 0 ≡ accepted insn
  pub meant : meaning_of insn ≡ accepted (act op registers)
  pub lane : MovedLane (register_bits registers.quad) op (read_r registers.quad file registers.n) (read_r registers.quad file registers.m)

-- a step turns the mark yes exactly when its pair moves a lane, and never turns it back
abbrev pub MarkTurns : Type 0
MarkTurns =
    (hw1 hw2 : ℕ) (s next : State) → step_pair hw1 hw2 s ≡ accepted next → s.mark ≡ false
    → (next.mark ≡ true → PairMoves hw1 hw2 s.file) × (PairMoves hw1 hw2 s.file → next.mark ≡ true)

abbrev pub MarkStays : Type 0
MarkStays = (hw1 hw2 : ℕ) (s next : State) → step_pair hw1 hw2 s ≡ accepted next → s.mark ≡ true → next.mark ≡ true

-- vorr with equal sources is the step that vmov is
abbrev pub CopyAlias : Type 0
CopyAlias =
    (i j : Insn) (s : State) → name_of i.mnemonic ≡ "vorr" → i.count ≡ 3 → i.third ≡ i.second
    → name_of j.mnemonic ≡ "vmov" → j.count ≡ 2 → j.first ≡ i.first → j.second ≡ i.second
    → step_insn i s ≡ step_insn j s

-- vshll by 0 is the step that vmovl of its sign and width is
abbrev pub LongMoveAlias : Type 0
LongMoveAlias =
    (i j : Insn) (s : State) (sign : Sign) (w : Width) → form_of (name_of i.mnemonic) ≡ Shift (Long sign) w → i.count ≡ 3 → i.third ≡ Imm (pos 0)
    → form_of (name_of j.mnemonic) ≡ Extend sign w → j.count ≡ 2 → j.first ≡ i.first → j.second ≡ i.second
    → step_insn i s ≡ step_insn j s

-- an answer says which case it is
abbrev pub OutcomesApart : Type 0
OutcomesApart = (x y : Result Left Refusal) → outcome_answer x ≡ outcome_answer y → x ≡ y
