-- The number of each refusal: document 01, 'Refusals from the input' and 'Refusals from the state'; document 02.
-- Assumes nothing.
use Rattle.std.specs.Prelude.{ℕ}
use Rattle.insn.specs.declared.Refusal.{Refusal}
use Rattle.insn.specs.declared.Refusal.TheVariants.{NoFamily, FixedBits, BlankCell, ZeroImmediate, PairwiseQuad, OddQuad, UnknownMnemonic, WrongForm, NoSuchValue, NoMeaning, WrongExtent, SheetLength, StepRule, ShortOutput, BudgetSpent, UnfilledRow}

abbrev pub number : Refusal → ℕ
-- reading
number NoFamily = 1  -- no family has the pair
number FixedBits = 2  -- L set where the row's class forbids it, or a conversion with imm6 below 32
number BlankCell = 3  -- a blank table cell
number ZeroImmediate = 4  -- a zero imm8 in a row that needs another
number PairwiseQuad = 5  -- a pairwise (vp) name in quad form; in writing too
number OddQuad = 6  -- an odd quad register
-- writing
number UnknownMnemonic = 7  -- no mnemonic has the number
number WrongForm = 8  -- count, kinds, register range or D/Q mix unlike the mnemonic's form
number NoSuchValue = 9  -- a number or float that no pair carries
-- running
number NoMeaning = 10  -- the machine has no meaning for the name
number WrongExtent = 11  -- halfwords, file or start that are no run; bytes that are no listing
-- sheets
number SheetLength = 12  -- a length that is no sheet's
number StepRule = 13  -- a step that breaks a step rule
number UnfilledRow = 16  -- a step that reads a row which nobody filled
-- the state
number ShortOutput = 14  -- the output is shorter than what is to be written
number BudgetSpent = 15  -- pairs remain and the budget is used up
