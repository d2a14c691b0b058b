-- The bytes of a sum sheet, as steps of 24: document 01, 'Sum sheet'.
-- Assumes nothing.
use Rattle.std.specs.Prelude.{List, [], ◌∷◌, ℕ, zero, suc, ◌+◌, ◌*◌, ◌/◌, length, get_or}
use Rattle.little_endian.specs.Word.{word_at}
use Rattle.steps.specs.declared.Step.{Step}

-- the step whose first byte is at place i
unfoldable pub step_at : List ℕ → ℕ → Step
step_at bytes i = record {
  kind = get_or bytes i 0;
  target = get_or bytes (i + 1) 0;
  a = get_or bytes (i + 2) 0;
  b = get_or bytes (i + 3) 0;
  c = get_or bytes (i + 4) 0;
  width = get_or bytes (i + 5) 0;
  amount = get_or bytes (i + 6) 0;
  sign = get_or bytes (i + 7) 0;
  low = word_at bytes (i + 8);
  high = word_at bytes (i + 16);
}

-- n steps from step k on
unfoldable pub steps_from : List ℕ → ℕ → ℕ → List Step
steps_from bytes k zero = []
steps_from bytes k (suc n) = step_at bytes (24 * k) ∷ steps_from bytes (suc k) n

-- the steps of a sheet
abbrev pub steps_of : List ℕ → List Step
steps_of bytes = steps_from bytes 0 (length bytes / 24)
