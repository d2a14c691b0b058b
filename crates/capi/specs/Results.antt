-- What a function of the C boundary returns, and what it leaves in what it was lent.
-- Assumes nothing.
use Rattle.std.specs.Prelude.{Bool, not, List, [], ◌∷◌, ℕ, eqb}
use Rattle.laws.specs.Answer.{Answer, accepted, refused}
use Rattle.laws.specs.AnswerAt as at
use Rattle.laws.specs.AnswerAt.{AnswerAt}
use Rattle.laws.specs.Choice.{choose}
use Rattle.insn.specs.declared.Insn.{Insn}
use Rattle.effects.specs.File.{File}
use Rattle.machine.specs.State.{State, state}
use Rattle.writings.specs.Forms.{Pair, pair}
use Rattle.runs.specs.Run.{Ending, done, stopped, Run}
use Rattle.words.specs.Words.{record_words}

-- 0, or the refusal's number
abbrev pub return_code : {A : Type 0} → Answer A → ℕ
return_code (accepted a) = 0
return_code (refused n) = n

-- the number that is accepted, or 0
abbrev pub accepted_or0 : Answer ℕ → ℕ
accepted_or0 (accepted n) = n
accepted_or0 (refused n) = 0

-- the words after a reading: the record's, or those that were there
abbrev pub record_after : Answer Insn → List ℕ → List ℕ
record_after (accepted i) before = record_words i
record_after (refused n) before = before

-- the pair after a writing: the halfwords, or those that were there
abbrev pub pair_after : Answer Pair → List ℕ → List ℕ
pair_after (accepted (pair hw1 hw2)) before = hw1 ∷ hw2 ∷ []
pair_after (refused n) before = before

-- of a run: 0 when it is done
abbrev pub end_code : Ending → ℕ
end_code done = 0
end_code (stopped n) = n

-- of an answer with a place: the code of what is accepted, or the refusal's number
abbrev pub code_at : {A : Type 0} → (A → ℕ) → AnswerAt A → ℕ
code_at f (at.accepted a) = f a
code_at f (at.refused n) = n
code_at f (at.refused_at n i) = n

-- of a translation: the pair count; or the step's index where the refusal has one, else 0
abbrev pub count_or_place : AnswerAt ℕ → ℕ
count_or_place (at.accepted n) = n
count_or_place (at.refused n) = 0
count_or_place (at.refused_at n i) = i

-- of an evaluation: the pairs executed, or 0
abbrev pub executed_or0 : AnswerAt Run → ℕ
executed_or0 (at.accepted r) = r.executed
executed_or0 (at.refused n) = 0
executed_or0 (at.refused_at n i) = 0

-- the mark as a byte: 0 is no, and any other that comes in is yes; 0 or 1 comes out
abbrev pub mark_in : ℕ → Bool
mark_in byte = not (eqb byte 0)

abbrev pub mark_out : Bool → ℕ
mark_out mark = choose mark 1 0

-- the state of a file and a mark that were lent
abbrev pub lent : File → ℕ → State
lent file byte = state file (mark_in byte)
