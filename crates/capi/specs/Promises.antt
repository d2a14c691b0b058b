-- Promises beyond the contracts; proofs/Promises.antt proves each under its name.
-- Assumes nothing.
use Rattle.std.specs.Prelude.{List, ◌≡◌, ℕ, ◌<◌, ◌^◌}
use Rattle.laws.specs.Answer.{accepted}
use Rattle.insn.specs.declared.Edition.{Edition}
use Rattle.insn.specs.declared.Insn.{Insn}
use Rattle.decode.specs.Editions.{reading_in}
use Rattle.writings.specs.Forms.{pair}
use Rattle.encode.specs.Writing.{writing_in}
use Rattle.words.specs.Records.{record_of}
use Rattle.capi.specs.Results.{record_after}

-- the ten words that `bodlixo_read` leaves for a pair that is read, handed to `bodlixo_write` in the same edition, are that
-- pair again
abbrev pub WordsWrittenBack : Type 0
WordsWrittenBack =
    (edition : Edition) (hw1 hw2 address : ℕ) (i : Insn) (before : List ℕ) → hw1 < 2 ^ 16 → hw2 < 2 ^ 16 → address < 2 ^ 32
    → reading_in edition hw1 hw2 address ≡ accepted i
    → writing_in edition (record_of (record_after (reading_in edition hw1 hw2 address) before)) ≡ accepted (pair hw1 hw2)
