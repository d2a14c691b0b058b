-- The promises of specs/Promises.antt.
-- Assumes nothing.
use mathlib.Core.Path.{◌≡◌, refl, sym, ap, ◌∙◌}
use mathlib.Core.Bool.{Bool, true, false}
use Prim.Native.Nat.{ℕ, ◌+◌, ◌*◌, ◌/◌, ◌^◌}
use Rattle.laws.specs.Choice.{either}
use Rattle.laws.specs.Search.{some_below}
use Rattle.laws.specs.Signed.{twos_complement}
use Rattle.laws.proofs.Never.{wrong}
use Rattle.laws.proofs.Some.{some-found, some-there}
use Rattle.insn.specs.declared.Sign.{Sign}
use Rattle.insn.specs.declared.Width.{Width}
use Rattle.insn.specs.Widths.{bits_of}
use Rattle.arithmetic.specs.Whole.{read_as}
use Rattle.saturating.specs.declared.SaturatingOp.{SaturatingOp}
use Rattle.saturating.specs.Range.{lowest, highest}
use Rattle.saturating.proofs.Promises.{outside_moved}
use Rattle.lanes.specs.declared.LaneOp.TheVariants.{Saturating}
use Rattle.lanes.specs.Promises.{lane_at}
use Rattle.operations.specs.declared.Operation.{Operation}
use Rattle.operations.specs.declared.Operation.TheVariants.{Lanes}
use Rattle.marks.specs.Moved.{lane_moved, some_moved, moved_by}
use Rattle.marks.specs.Promises.{exact_at, MovedLane, MovedExactly, EitherHalf, WorkedMoves}
use Rattle.marks.proofs.Halves.{some-halves}
use Rattle.marks.proofs.Quiet.{by_kind}

-- a saturating operation, from the test to the lane
some_lane : (size : ℕ) (op : SaturatingOp) (s : Sign) (w : Width) (n m : ℕ) → some_moved size op s w n m ≡ true → MovedLane size (Lanes (Saturating op s) w) n m
unfolding some_moved
some_lane size op s w n m e =
    let b = bits_of w in
    let f = some-found (λ (i : ℕ). lane_moved op s b (lane_at b i n) (lane_at b i m)) (size / b) e in
    record { name = op; sign = s; width = w; lane = f.at; is = refl; there = f.below; moved = (outside_moved s b (exact_at op s w f.at n m)).0 f.passes }

-- no other operation says that it moves one
from-test : (size : ℕ) (op : Operation) (n m : ℕ) → moved_by size op n m ≡ true → MovedLane size op n m
from-test size op n m =
    by_kind (λ (x : Operation). moved_by size x n m ≡ true → MovedLane size x n m) (λ o s w. some_lane size o s w n m)
    (λ x quiet e. wrong (sym (quiet size n m) ∙ e)) op

-- from the lane to the test
to-test : (size : ℕ) (op : Operation) (n m : ℕ) → MovedLane size op n m → moved_by size op n m ≡ true
unfolding some_moved
to-test size op n m r = ap (λ (o : Operation). moved_by size o n m) r.is ∙ some-there test (size / b) (record { at = r.lane; below = r.there; passes = by (test r.lane) refl })
  where
    b : ℕ
    b = bits_of r.width

    test : ℕ → Bool
    test i = lane_moved r.name r.sign b (lane_at b i n) (lane_at b i m)

    by : (t : Bool) → test r.lane ≡ t → test r.lane ≡ true
    by true e = e
    by false e = absurd (r.moved ((outside_moved r.sign b (exact_at r.name r.sign r.width r.lane n m)).1 e))

pub moved_exactly : MovedExactly
moved_exactly size op n m = (from-test size op n m, to-test size op n m)

pub either_half : EitherHalf
either_half op n n' m m' hn hm =
    by_kind (λ (x : Operation). moved_by 128 x (n + 2 ^ 64 * n') (m + 2 ^ 64 * m') ≡ either (moved_by 64 x n m) (moved_by 64 x n' m'))
    (λ o s w. some-halves o s w n n' m m' hn hm)
    (λ x quiet. quiet 128 (n + 2 ^ 64 * n') (m + 2 ^ 64 * m') ∙ sym (λ t. either (quiet 64 n m t) (quiet 64 n' m' t))) op

pub worked_moves : WorkedMoves
unfolding twos_complement read_as lowest highest some_below some_moved
worked_moves = (refl, refl, refl, refl, refl, refl, refl, refl, refl, refl, refl)
