-- The rows that a step reads: document 01, 'Sum sheet', what each kind uses.
-- Assumes nothing.
use Rattle.std.specs.Prelude.{List, [], ◌∷◌, ℕ}
use Rattle.steps.specs.declared.Step.{Step}
use Rattle.steps.specs.Rules.{Use, unused, up_to, below, uses_of}

-- a row that is used, before others
abbrev pub used_row : Use → ℕ → List ℕ → List ℕ
used_row unused r rs = rs
used_row (up_to n) r rs = r ∷ rs
used_row (below n) r rs = r ∷ rs

-- the rows that a step reads, by its kind
unfoldable pub reads_by : ℕ → Step → List ℕ
reads_by kind s = used_row (uses_of kind).a s.a (used_row (uses_of kind).b s.b (used_row (uses_of kind).c s.c []))

-- the rows that a step reads
abbrev pub reads : Step → List ℕ
reads s = reads_by s.kind s
