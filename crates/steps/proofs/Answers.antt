-- A result is told by what it stands for.
-- Assumes nothing.
use mathlib.Core.Path.{◌≡◌, refl, sym, ap}
use Prim.Native.Nat.{ℕ}
use Rattle.std.specs.Prelude.{Option, Some, None, Result, Ok, Err}
use Rattle.laws.specs.AnswerAt.{AnswerAt, accepted}
use Rattle.laws.proofs.Never.{never}
use Rattle.insn.specs.declared.Refusal.{Refusal}
use Rattle.insn.proofs.Promises.{numbered_apart}
use Rattle.steps.specs.declared.faults.SheetError.{SheetError}
use Rattle.steps.specs.Answers.{refused_with, refused_for, answer_at}

apart : {A : Type 0} (f g : Refusal) (a b : Option ℕ) → ◌≡◌ {A = AnswerAt A} (refused_with f a) (refused_with g b) → (f ≡ g) × (a ≡ b)
apart f g None None e = (numbered_apart f g (cc), refl)
apart f g None (Some j) e = never (cc)
apart f g (Some i) None e = never (cc)
apart f g (Some i) (Some j) e = (numbered_apart f g (cc), ap Some (let l : i ≡ j = cc in l))

pub refusals_apart : {A : Type 0} (x y : SheetError) → ◌≡◌ {A = AnswerAt A} (refused_for x) (refused_for y) → x ≡ y
refusals_apart {A} x y e = let p = apart {A = A} x.cause y.cause x.step y.step e in λ i. record { cause = p.0 i; step = p.1 i }

-- no refusal is an acceptance
no_acceptance : {A : Type 0} (a : A) (f : Refusal) (s : Option ℕ) {P : Type 0} → accepted a ≡ refused_with f s → P
no_acceptance a f None e = never (cc)
no_acceptance a f (Some i) e = never (cc)

pub not_accepted : {A : Type 0} (a : A) (x : SheetError) {P : Type 0} → accepted a ≡ refused_for x → P
not_accepted a x e = no_acceptance a x.cause x.step e

pub answers_at_apart : {A : Type 0} (x y : Result A SheetError) → answer_at x ≡ answer_at y → x ≡ y
answers_at_apart (Ok a) (Ok b) e = ap Ok (let k : a ≡ b = cc in k)
answers_at_apart (Ok a) (Err y) e = not_accepted a y e
answers_at_apart (Err x) (Ok b) e = not_accepted b x (sym e)
answers_at_apart (Err x) (Err y) e = ap Err (refusals_apart x y e)
