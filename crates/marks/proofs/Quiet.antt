-- An operation is a saturating one, or never moves a lane.
-- Assumes nothing.
use mathlib.Core.Path.{◌≡◌, refl}
use mathlib.Core.Bool.{false}
use Prim.Native.Nat.{ℕ}
use Rattle.insn.specs.declared.Sign.{Sign}
use Rattle.insn.specs.declared.Width.{Width}
use Rattle.saturating.specs.declared.SaturatingOp.{SaturatingOp}
use Rattle.lanes.specs.declared.LaneOp.TheVariants.{Add, Sub, Mul, Mla, Mls, Max, Min, Cgt, Cge, Ceq, Tst, Shl, Shr, Saturating, Halving}
use Rattle.operations.specs.declared.Operation.{Operation}
use Rattle.operations.specs.declared.Operation.TheVariants.{Lanes, Bits, Constant}
use Rattle.marks.specs.Moved.{moved_by}

-- it moves no lane, whatever the sources
abbrev pub Quiet : Operation → Type 0
Quiet op = (size n m : ℕ) → moved_by size op n m ≡ false

-- what holds of each saturating operation, and of each that moves no lane, holds of every operation
pub by_kind : (P : Operation → Type 0) → ((op : SaturatingOp) (s : Sign) (w : Width) → P (Lanes (Saturating op s) w)) → ((op : Operation) → Quiet op → P op) → (op : Operation) → P op
by_kind P ends quiet (Lanes (Saturating op s) w) = ends op s w
by_kind P ends quiet (Lanes Add w) = quiet (Lanes Add w) (λ size n m. refl)
by_kind P ends quiet (Lanes Sub w) = quiet (Lanes Sub w) (λ size n m. refl)
by_kind P ends quiet (Lanes Mul w) = quiet (Lanes Mul w) (λ size n m. refl)
by_kind P ends quiet (Lanes Mla w) = quiet (Lanes Mla w) (λ size n m. refl)
by_kind P ends quiet (Lanes Mls w) = quiet (Lanes Mls w) (λ size n m. refl)
by_kind P ends quiet (Lanes (Max s) w) = quiet (Lanes (Max s) w) (λ size n m. refl)
by_kind P ends quiet (Lanes (Min s) w) = quiet (Lanes (Min s) w) (λ size n m. refl)
by_kind P ends quiet (Lanes (Cgt s) w) = quiet (Lanes (Cgt s) w) (λ size n m. refl)
by_kind P ends quiet (Lanes (Cge s) w) = quiet (Lanes (Cge s) w) (λ size n m. refl)
by_kind P ends quiet (Lanes Ceq w) = quiet (Lanes Ceq w) (λ size n m. refl)
by_kind P ends quiet (Lanes Tst w) = quiet (Lanes Tst w) (λ size n m. refl)
by_kind P ends quiet (Lanes (Shl k) w) = quiet (Lanes (Shl k) w) (λ size n m. refl)
by_kind P ends quiet (Lanes (Shr s k) w) = quiet (Lanes (Shr s k) w) (λ size n m. refl)
by_kind P ends quiet (Lanes (Halving op s) w) = quiet (Lanes (Halving op s) w) (λ size n m. refl)
by_kind P ends quiet (Bits op) = quiet (Bits op) (λ size n m. refl)
by_kind P ends quiet (Constant op p) = quiet (Constant op p) (λ size n m. refl)
