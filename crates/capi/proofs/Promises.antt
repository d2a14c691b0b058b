-- The promises of specs/Promises.antt.
-- Assumes nothing.
use mathlib.Core.Path.{◌∙◌, ap}
use Rattle.insn.specs.declared.Insn.{Insn}
use Rattle.laws.specs.Answer.{Answer}
use Rattle.laws.proofs.Tests.{passed}
use Rattle.decode.specs.Editions.{is_withheld}
use Rattle.encode.specs.Writing.{writing_in}
use Rattle.trips.proofs.Promises.{read_then_written}
use Rattle.words.specs.Records.{record_of}
use Rattle.words.proofs.Promises.{words_back, readings_fit}
use Rattle.capi.specs.Results.{record_after}
use Rattle.capi.specs.Promises.{WordsWrittenBack}

pub words_written_back : WordsWrittenBack
words_written_back edition hw1 hw2 address i before h1 h2 ha e =
    let read = (passed (is_withheld edition hw1 hw2) 3 _ i e).1 in
    ap (λ (a : Answer Insn). writing_in edition (record_of (record_after a before))) e
    ∙ ap (writing_in edition) (words_back i (readings_fit hw1 hw2 address i ha read))
    ∙ read_then_written edition hw1 hw2 address i i.mark i.address h1 h2 e
