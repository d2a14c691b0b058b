use mathlib.Core.Path.{◌≡◌, refl, sym}
use mathlib.Core.Bool.{false}
use Prim.Native.Nat.{ℕ}
use Rattle.insn.specs.declared.Sign.{Sign}
use Rattle.saturating.specs.declared.SaturatingOp.{SaturatingOp}
use Rattle.lanes.specs.declared.LaneOp.TheVariants.{Saturating}
use Rattle.operations.specs.declared.Operation.{Operation}
use Rattle.operations.specs.declared.Operation.TheVariants.{Lanes, Bits, Constant}
use Rattle.marks.specs.Moved.{lanes_moved}
use Rattle.marks.proofs.Quiet.{Quiet, by_kind}
use Rattle.marks.proofs.lanes_moved.Goals as goal

abbrev OthersQuiet : Operation → Type 0
OthersQuiet (Lanes op w) = ((o : SaturatingOp) (s : Sign) → op ≡ Saturating o s → ⊥) → (n m : ℕ) → false ≡ lanes_moved 64 op w n m
OthersQuiet (Bits op) = Unit {0}
OthersQuiet (Constant op p) = Unit {0}

-- none of them moves a lane
quiet-other : (x : Operation) → Quiet x → OthersQuiet x
quiet-other (Lanes op w) quiet = λ k n m. sym (quiet 64 n m)
quiet-other (Bits op) quiet = tt
quiet-other (Constant op p) quiet = tt

other : (x : Operation) → OthersQuiet x
other = by_kind OthersQuiet (λ op s w k n m. absurd (k op s refl)) quiet-other

pub returns-in_default : goal.returns-in_default
returns-in_default c =
    let a = c.args in
    other (Lanes a.op a.w) c.in_default.not-Saturating a.n a.m
