-- The promises of specs/Promises.antt.
-- Assumes nothing.
use mathlib.Core.Path.{◌≡◌, refl, sym, ap, ◌∙◌}
use mathlib.Core.List.{[], ◌∷◌}
use Prim.Native.Nat.{ℕ}
use Rattle.std.specs.Prelude.{Ok, Err}
use Rattle.laws.proofs.Never.{never}
use lib.ListN.{get_or}
use Rattle.insn.specs.declared.Refusal.{Refusal}
use Rattle.insn.specs.declared.Refusal.TheVariants.{NoFamily, FixedBits, BlankCell, ZeroImmediate, PairwiseQuad, OddQuad, UnknownMnemonic, WrongForm, NoSuchValue, NoMeaning, WrongExtent, SheetLength, StepRule, ShortOutput, BudgetSpent, UnfilledRow}
use Rattle.insn.specs.Refusals.{number}
use Rattle.insn.specs.Promises.{NumberedApart, AnswersApart}

-- the refusal of a number, of which `number` is the inverse
abbrev named : ℕ → Refusal
named n =
    get_or
    (NoFamily
    ∷ NoFamily
    ∷ FixedBits
    ∷ BlankCell
    ∷ ZeroImmediate
    ∷ PairwiseQuad
    ∷ OddQuad
    ∷ UnknownMnemonic
    ∷ WrongForm
    ∷ NoSuchValue
    ∷ NoMeaning
    ∷ WrongExtent
    ∷ SheetLength
    ∷ StepRule
    ∷ ShortOutput
    ∷ BudgetSpent
    ∷ UnfilledRow
    ∷ [])
    n
    NoFamily

back : (f : Refusal) → named (number f) ≡ f
back NoFamily = refl
back FixedBits = refl
back BlankCell = refl
back ZeroImmediate = refl
back PairwiseQuad = refl
back OddQuad = refl
back UnknownMnemonic = refl
back WrongForm = refl
back NoSuchValue = refl
back NoMeaning = refl
back WrongExtent = refl
back SheetLength = refl
back StepRule = refl
back ShortOutput = refl
back BudgetSpent = refl
back UnfilledRow = refl

pub numbered_apart : NumberedApart
numbered_apart f g e = sym (back f) ∙ ap named e ∙ back g

pub answers_apart : {A : Type 0} → AnswersApart A
answers_apart (Ok a) (Ok b) e = ap Ok (let k : a ≡ b = cc in k)
answers_apart (Ok a) (Err g) e = never (cc)
answers_apart (Err f) (Ok b) e = never (cc)
answers_apart (Err f) (Err g) e = ap Err (numbered_apart f g (cc))
