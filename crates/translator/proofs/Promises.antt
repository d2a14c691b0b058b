-- The promises of specs/Promises.antt.
-- Assumes nothing.
use mathlib.Core.Path.{sym, ◌∙◌, ap}
use lib.ListN.{length}
use Prim.Native.Nat.{ℕ}
use Rattle.laws.specs.AnswerAt.{AnswerAt}
use Rattle.recipes.specs.Pairs.{pairs_of, halfwords_of}
use Rattle.steps.specs.Faults.{Fault}
use Rattle.steps.specs.Steps.{steps_of}
use Rattle.steps.proofs.FirstFaults.{sound_exactly}
use Rattle.steps.proofs.Answers.{answers_at_apart}
use Rattle.steps.proofs.Promises as steps
use Rattle.translator.specs.Promises.{Exactly, AsBefore, LargerTranslates, MarksIgnored, AllWritten, HalfShort, OutputKept, TranslationsApart}
use Rattle.translator.specs.Translation.{records_of, translation_by, written_by}
use Rattle.recipes.proofs.ByKind.{sheet-written}
use Rattle.recipes.proofs.Halves.{half-few}
use Rattle.translator.proofs.Translations.{translates, translated, kept-unless}
use Rattle.recipes.proofs.Writes.{written-length}

pub exactly : Exactly
exactly t bytes room n = (translates t bytes room n, translated t bytes room n)

pub as_before : AsBefore
as_before t bytes out all =
    let e = ap (λ (f : Fault). translation_by f bytes (length out)) (steps.all_rows_filled t (steps_of bytes) all) in
    (e, ap (λ (a : AnswerAt ℕ). written_by a (halfwords_of (records_of bytes)) out) e)

pub larger_translates : LargerTranslates
larger_translates small large bytes out n w e =
    let a = translates small bytes (length out) n e in
    let f = steps.larger_allows small large (steps_of bytes) w ((sound_exactly small (steps_of bytes)).1 (a.keep, a.filled)) in
    let b = (sound_exactly large (steps_of bytes)).0 f in
    let l = translated large bytes (length out) n (record { whole = a.whole; few = a.few; keep = a.keep; filled = b.1; count = a.count; long = a.long }) in
    (l, ap (λ (x : AnswerAt ℕ). written_by x (halfwords_of (records_of bytes)) out) (l ∙ sym e))

pub marks_ignored : MarksIgnored
marks_ignored filled bytes out =
    let e = ap (λ (f : Fault). translation_by f bytes (length out)) (steps.marks_above filled (steps_of bytes)) in
    (e, ap (λ (a : AnswerAt ℕ). written_by a (halfwords_of (records_of bytes)) out) e)

pub all_written : AllWritten
all_written steps k = written-length (pairs_of steps) (sheet-written steps k)

pub half_short : HalfShort
half_short = half-few

pub output_kept : OutputKept
output_kept = kept-unless

pub translations_apart : TranslationsApart
translations_apart = answers_at_apart
