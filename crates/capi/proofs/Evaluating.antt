-- What an evaluation at the boundary leaves, by what its translation and its run leave.
-- Assumes nothing.
use mathlib.Core.Path.{◌≡◌, refl, sym, ◌∙◌, ap, subst}
use mathlib.Core.Bool.{Bool, true, false}
use mathlib.Core.List.{List}
use Prim.Native.Nat.{ℕ, ◌*◌, ◌^◌, ◌<◌}
use lib.ListN.{length, get_or, take}
use Rattle.effects.specs.File.{File}
use Rattle.std.specs.Prelude.{Option, Some, None}
use Rattle.insn.specs.declared.Refusal.{Refusal}
use Rattle.insn.specs.Refusals.{number}
use Rattle.laws.specs.AnswerAt.{AnswerAt, accepted, refused, refused_at}
use Rattle.machine.specs.State.{State, state}
use Rattle.runs.specs.Run.{Run, run_of}
use Rattle.sheet.specs.Demand3.{Demand3}
use Rattle.sheet.specs.Evaluation.{evaluated_by, evaluation_of, state_left}
use Rattle.steps.specs.Answers.{refused_with}
use Rattle.steps.specs.declared.Terms.{Terms}
use Rattle.translator.specs.Translation.{translation_of, written_of}
use Rattle.sheet.proofs.Whole.{sheets-hold}
use Rattle.capi.specs.Results.{end_code, code_at, executed_or0, mark_in, mark_out, lent}

-- a mark that comes out, handed in again
again : (m : Bool) → mark_in (mark_out m) ≡ m
again true = refl
again false = refl

module _ (t : Terms) (bytes out : List ℕ) (file : File) (byte budget : ℕ) (small : (k : ℕ) → get_or file k 0 < 2 ^ 64) (out' : List ℕ) (w : out' ≡ written_of t bytes out) where
  abbrev s : State
  s = lent file byte

  abbrev answer : AnswerAt Run
  answer = evaluation_of t bytes out s budget

  abbrev code_of : AnswerAt Run → ℕ
  code_of = code_at (λ (r : Run). end_code r.ending)

  pub record Leaves (code executed : ℕ) (file' : File) (byte' : ℕ) : Type 0 where
    pub code_told : code ≡ code_of answer
    pub counted : executed ≡ executed_or0 answer
    pub file_left : file' ≡ (state_left answer s).file
    pub mark_kept : byte' ≡ mark_out (mark_in byte)
    pub demanded : Demand3 t bytes out s budget out' (lent file' byte') answer

  -- by the translation's answer y
  leaves : (y : AnswerAt ℕ) (code executed : ℕ) (file' : File) (byte' : ℕ) → translation_of t bytes (length out) ≡ y
      → code ≡ code_of (evaluated_by y out' s budget) → executed ≡ executed_or0 (evaluated_by y out' s budget)
      → file' ≡ (state_left (evaluated_by y out' s budget) s).file → byte' ≡ mark_out (state_left (evaluated_by y out' s budget) s).mark
      → Leaves code executed file' byte'
  leaves y code executed file' byte' e c x f m =
      let same : evaluated_by y out' s budget ≡ answer =
      ap (λ (o : List ℕ). evaluated_by y o s budget) w ∙ ap (λ (x : AnswerAt ℕ). evaluated_by x (written_of t bytes out) s budget) (sym e) in
      let held = sheets-hold t bytes out s budget small in
      let left : file' ≡ (state_left answer s).file = f ∙ ap (λ (a : AnswerAt Run). (state_left a s).file) same in
      let mark : byte' ≡ mark_out (state_left answer s).mark = m ∙ ap (λ (a : AnswerAt Run). mark_out (state_left a s).mark) same in
      let whole : lent file' byte' ≡ state_left answer s = λ i. state (left i) ((ap mark_in mark ∙ again (state_left answer s).mark) i) in
      record {
        code_told = c ∙ ap code_of same;
        counted = x ∙ ap executed_or0 same;
        file_left = left;
        mark_kept = mark ∙ ap mark_out held.mark;
        demanded =
            subst (λ (o : List ℕ). Demand3 t bytes out s budget o (lent file' byte') answer) (sym w)
            (subst (λ (z : State). Demand3 t bytes out s budget (written_of t bytes out) z answer) (sym whole) held);
      }

  pub after_run : (n code executed : ℕ) (file' : File) (byte' : ℕ) → translation_of t bytes (length out) ≡ accepted n
      → let r = run_of (take (2 * n) out') 0 s budget in
      code ≡ end_code r.ending → executed ≡ r.executed → file' ≡ r.state.file → byte' ≡ mark_out r.state.mark → Leaves code executed file' byte'
  unfolding evaluated_by
  after_run n code executed file' byte' e c x f m = leaves (accepted n) code executed file' byte' e c x f m

  pub after_refusal : (f : Refusal) (step : Option ℕ) (code : ℕ) (byte' : ℕ) → translation_of t bytes (length out) ≡ refused_with f step → code ≡ number f
      → byte' ≡ mark_out (mark_in byte) → Leaves code 0 file byte'
  unfolding evaluated_by
  after_refusal f None code byte' e c m = leaves (refused (number f)) code 0 file byte' e c refl refl m
  after_refusal f (Some i) code byte' e c m = leaves (refused_at (number f) i) code 0 file byte' e c refl refl m
