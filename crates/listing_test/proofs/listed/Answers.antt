use Rattle.std.proofs.Common.{sym, ap, ◌∙◌, arith}
use Rattle.listing.proofs.Whole.{length-fits}
use Rattle.insn.specs.Answers.{answer}
use Rattle.listing_test.proofs.listed.Goals as goal

pub returns-in-Ok : goal.returns-in-Ok
returns-in-Ok c =
    omega (arith, length-fits _ _ _ (sym (ap answer c.in-Ok.is) ∙ c.list.ensures.answer), c.list.auto.out)
