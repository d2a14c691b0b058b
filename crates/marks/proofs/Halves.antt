-- A lane is moved in a quadword where one is in its low doubleword or in its high one.
-- Assumes nothing.
use mathlib.Core.Path.{◌≡◌, subst, ◌∙◌}
use mathlib.Core.Bool.{Bool}
use Prim.Native.Nat.{ℕ, ◌+◌, ◌-◌, ◌*◌, ◌^◌, ◌<◌}
use Rattle.laws.specs.Choice.{either}
use Rattle.laws.specs.Search.{some_below}
use Rattle.laws.proofs.Some.{some-apart, some_same}
use Rattle.insn.specs.declared.Sign.{Sign}
use Rattle.insn.specs.declared.Width.{Width}
use Rattle.insn.specs.Widths.{size_of, bits_of}
use Rattle.insn.proofs.Sizes.{size-le, lanes}
use Rattle.saturating.specs.declared.SaturatingOp.{SaturatingOp}
use Rattle.lanes.specs.Promises.{lane_at}
use Rattle.lanes.proofs.Lanewise.{lane_below, lane_above}
use Rattle.marks.specs.Moved.{lane_moved, some_moved}

-- k lanes of b bits below k others
module _ (op : SaturatingOp) (s : Sign) (b k n n' m m' : ℕ) (fill : b * k ≡ 64) (hn : n < 2 ^ 64) (hm : m < 2 ^ 64) where
  abbrev test : ℕ → ℕ → ℕ → Bool
  test x y i = lane_moved op s b (lane_at b i x) (lane_at b i y)

  lower : (x x' i : ℕ) → i < k → lane_at b i (x + 2 ^ 64 * x') ≡ lane_at b i x
  lower x x' i h = subst (λ (z : ℕ). lane_at b i (x + 2 ^ z * x') ≡ lane_at b i x) fill (lane_below b k i x x' h)

  upper : (x x' i : ℕ) → x < 2 ^ 64 → lane_at b (k + i) (x + 2 ^ 64 * x') ≡ lane_at b i x'
  upper x x' i = subst (λ (z : ℕ). x < 2 ^ z → lane_at b (k + i) (x + 2 ^ z * x') ≡ lane_at b i x') fill (lane_above b k i x x')

  pub halves : some_below (k + k) (test (n + 2 ^ 64 * n') (m + 2 ^ 64 * m')) ≡ either (some_below k (test n m)) (some_below k (test n' m'))
  halves =
      let whole : ℕ → Bool = test (n + 2 ^ 64 * n') (m + 2 ^ 64 * m') in
      let low : some_below k whole ≡ some_below k (test n m) =
      some_same whole (test n m) k (λ i h. λ t. lane_moved op s b (lower n n' i h t) (lower m m' i h t)) in
      let high : some_below k (λ i. whole (k + i)) ≡ some_below k (test n' m') =
      some_same (λ i. whole (k + i)) (test n' m') k (λ i h. λ t. lane_moved op s b (upper n n' i hn t) (upper m m' i hm t)) in
      some-apart whole k k ∙ (λ t. either (low t) (high t))

pub some-halves : (op : SaturatingOp) (s : Sign) (w : Width) (n n' m m' : ℕ) → n < 2 ^ 64 → m < 2 ^ 64
    → some_moved 128 op s w (n + 2 ^ 64 * n') (m + 2 ^ 64 * m') ≡ either (some_moved 64 op s w n m) (some_moved 64 op s w n' m')
unfolding some_moved
some-halves op s w n n' m m' hn hm =
    let l = lanes (size_of w) 3 (size-le w) in
    rw (l.doubled, l.counted) (halves op s (bits_of w) (2 ^ (3 - size_of w)) n n' m m' l.fill hn hm)
