-- The promises of specs/Promises.antt.
-- Assumes nothing.
use mathlib.Core.Path.{◌≡◌, refl, ap}
use mathlib.Core.Bool.{Bool, true, false}
use lib.Dec.{eqb}
use Rattle.laws.specs.Answer.{Answer, refused}
use Rattle.laws.specs.Choice.{choose}
use Rattle.laws.proofs.Never.{never}
use Rattle.insn.proofs.Promises.{numbered_apart}
use Rattle.std.specs.Prelude.{Ok, Err}
use Rattle.meanings.specs.declared.Action.{Action}
use Rattle.meanings.specs.declared.Action.TheVariants.{Does, Doubles}
use Rattle.meanings.specs.Answers.{act_of}
use Rattle.forms.proofs.Promises.{no-form}
use Rattle.meanings.specs.Meaning.{Act, double, meaning_in, meaning_of}
use Rattle.meanings.specs.Promises.{Unlisted, LanesTo32, MeaningsApart}
use Rattle.meanings.proofs.Actions.{meant}

pub unlisted : Unlisted
unfolding meaning_of meaning_in
unlisted i e = rw (no-form i.mnemonic e) (none (eqb i.count 0))
  where
    none : (b : Bool) → ◌≡◌ {A = Answer Act} (choose b (refused 10) (refused 10)) (refused 10)
    none true = refl
    none false = refl

pub lanes_to32 : LanesTo32
lanes_to32 i op w r e = (meant i (double op w r) e).sound

actions_apart : (x y : Action) → act_of x ≡ act_of y → x ≡ y
actions_apart (Does p r) (Does q s) e = let k : p ≡ q = cc in let m : r ≡ s = cc in λ i. Does (k i) (m i)
actions_apart (Does p r) (Doubles q w s) e = never (cc)
actions_apart (Doubles p v r) (Does q s) e = never (cc)
actions_apart (Doubles p v r) (Doubles q w s) e = let k : p ≡ q = cc in let l : v ≡ w = cc in let m : r ≡ s = cc in λ i. Doubles (k i) (l i) (m i)

pub meanings_apart : MeaningsApart
meanings_apart (Ok x) (Ok y) e = ap Ok (actions_apart x y (cc))
meanings_apart (Ok x) (Err g) e = never (cc)
meanings_apart (Err f) (Ok y) e = never (cc)
meanings_apart (Err f) (Err g) e = ap Err (numbered_apart f g (cc))
