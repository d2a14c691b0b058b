-- What the translator answers, and what it leaves in the output: document 01, 'Sum sheet' and the refusals; document 02,
-- F-6.
-- Assumes nothing.
use Rattle.std.specs.Prelude.{List, ◌++◌, ◌≡◌, ℕ, ◌*◌, ◌%◌, ◌≤◌, ltb, length, drop}
use Rattle.laws.specs.AnswerAt.{AnswerAt, accepted, refused, refused_at}
use Rattle.laws.specs.Choice.{choose}
use Rattle.insn.specs.declared.Insn.{Insn}
use Rattle.recipes.specs.Pairs.{pairs_of, halfwords_of}
use Rattle.steps.specs.declared.Terms.{Terms}
use Rattle.steps.specs.Faults.{AllFilled, Fault, first_fault, unless_refused}
use Rattle.steps.specs.Rules.{AllKeep}
use Rattle.steps.specs.Steps.{steps_of}

-- the pairs of a sheet's steps
abbrev pub records_of : List ℕ → List Insn
records_of bytes = pairs_of (steps_of bytes)

-- for a sheet's bytes, whose steps have this first fault, with `room` halfwords of output: 12, or the fault, or 14; else
-- the number of pairs
unfoldable pub translation_by : Fault → List ℕ → ℕ → AnswerAt ℕ
translation_by first bytes room =
    unless_refused bytes first
    (choose (ltb room (2 * length (records_of bytes))) (refused 14)
    (accepted (length (records_of bytes))))

-- what is answered with these terms
abbrev pub translation_of : Terms → List ℕ → ℕ → AnswerAt ℕ
translation_of t bytes room = translation_by (first_fault t (steps_of bytes)) bytes room

-- the pairs' halfwords at the front of the output; a refusal leaves it as it was
unfoldable pub written_by : AnswerAt ℕ → List ℕ → List ℕ → List ℕ
written_by (accepted n) code out = code ++ drop (length code) out
written_by (refused r) code out = out
written_by (refused_at r i) code out = out

-- what is left in the output
abbrev pub written_of : Terms → List ℕ → List ℕ → List ℕ
written_of t bytes out = written_by (translation_of t bytes (length out)) (halfwords_of (records_of bytes)) out

-- The bytes are 0 to 256 whole steps that keep the step rules and read filled rows, their pairs are n, and the output has
-- two halfwords for each.
pub record Translates (t : Terms) (bytes : List ℕ) (room n : ℕ) : Type 0 where
  pub whole : length bytes % 24 ≡ 0
  pub few : length bytes ≤ 6144
  pub keep : AllKeep (steps_of bytes)
  pub filled : AllFilled t (steps_of bytes)
  pub count : n ≡ length (records_of bytes)
  pub long : 2 * n ≤ room
