-- A whole sheet: its pairs are written, and leave its rows at what the steps say.
-- Assumes nothing.
use mathlib.Core.Path.{◌≡◌, ◌∙◌, ap}
use mathlib.Core.Bool.{true}
use mathlib.Core.List.{List, [], ◌∷◌, ◌++◌}
use Rattle.effects.specs.File.{File, Good}
use Rattle.meanings.specs.Meaning.{Act}
use Rattle.steps.specs.declared.Step.{Step}
use Rattle.steps.specs.Meaning.{rows_of, taken, meaning}
use Rattle.recipes.specs.Pairs.{pairs_by, pairs_of}
use Rattle.recipes.proofs.ByKind.{step-few}
use Rattle.sheet.specs.Demand3.{EachShort}
use Rattle.steps.specs.Rules.{keeps, AllKeep}
use Rattle.sheet.proofs.ByKind.{acts_by, written}
use Rattle.sheet.proofs.Doing.{doing, Does, does-append, doing-nil, doing-append, doing-good}
use Rattle.steps.proofs.Kept.{kept_of, kind-small}
use Rattle.sheet.proofs.Left.{left}

-- the operations of all steps
unfoldable pub acts_of : List Step → List Act
acts_of [] = []
acts_of (s ∷ steps) = acts_by s.kind s ++ acts_of steps

step-does : (s : Step) → keeps s ≡ true → Does (pairs_by s.kind s) (acts_by s.kind s)
step-does s e = written s s.kind (kind-small s e) (kept_of s e)

pub sheet-does : (steps : List Step) → AllKeep steps → Does (pairs_of steps) (acts_of steps)
unfolding pairs_of acts_of
sheet-does [] k = tt
sheet-does (s ∷ steps) k =
    does-append (pairs_by s.kind s) (pairs_of steps) (acts_by s.kind s) (acts_of steps) (step-does s k.0) (sheet-does steps k.1)

step_left : (s : Step) → keeps s ≡ true → (file : File) → Good file → rows_of (doing (acts_by s.kind s) file) ≡ taken s (rows_of file)
unfolding taken
step_left s e file g = left s file g s.kind (kind-small s e) (kept_of s e)

pub sheet-left : (steps : List Step) → AllKeep steps → (file : File) → Good file → rows_of (doing (acts_of steps) file) ≡ meaning steps (rows_of file)
unfolding acts_of meaning
sheet-left [] k file g = ap rows_of (doing-nil file)
sheet-left (s ∷ steps) k file g =
    ap rows_of (doing-append (acts_by s.kind s) (acts_of steps) file)
    ∙ sheet-left steps k.1 (doing (acts_by s.kind s) file) (doing-good (pairs_by s.kind s) (acts_by s.kind s) file (step-does s k.0) g)
    ∙ ap (meaning steps) (step_left s k.0 file g)

-- at most twenty pairs a step
pub sheet-short : (steps : List Step) → AllKeep steps → EachShort steps
sheet-short [] k = tt
sheet-short (s ∷ steps) k = (step-few s k.0, sheet-short steps k.1)
