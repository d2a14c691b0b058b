-- What an act does to a file.
-- Assumes nothing.
use mathlib.Core.Path.{◌≡◌, refl, sym, ap, ◌∙◌}
use mathlib.Core.Bool.{Bool, true, false}
use mathlib.Core.Logic.{◌≢◌}
use mathlib.Core.List.{[], ◌∷◌}
use Prim.Native.Nat.{ℕ, zero, suc, ◌+◌, ◌*◌, ◌/◌, ◌%◌, ◌^◌, ◌<◌, ◌≤◌}
use native.Mathlib.Omega.{arith}
use native.Mathlib.Nat.{add-zero, zero-add, mul_comm, add-mul-mod_self_left, add-mul-div_left, mod-eq_of_lt, div-eq_of_lt}
use lib.ListN.{length, get_or, set, length-set}
use lib.Pow.{pow_pos}
use lib.Seq.{get_or-set_other}
use Rattle.laws.specs.Choice.{either}
use Rattle.laws.proofs.Some.{either-apart}
use Rattle.insn.specs.declared.Width.{Width}
use Rattle.insn.specs.Widths.{bits_of}
use Rattle.tables.specs.declared.lengths.Lengths.{Lengths}
use Rattle.double_lanes.specs.declared.DoubleOp.{DoubleOp}
use Rattle.double_lanes.specs.Double.{lengths_of, lane_bits}
use Rattle.double_lanes.proofs.Promises.{double_halves, half_below}
use Rattle.operations.specs.declared.Operation.{Operation}
use Rattle.marks.specs.Moved.{moved_by}
use Rattle.marks.proofs.Promises.{either_half}
use Rattle.meanings.specs.declared.Numbers.{Numbers}
use Rattle.meanings.specs.declared.Registers.{Registers}
use Rattle.effects.specs.File.{File, Good, read_d, read_r, write_r}
use Rattle.effects.specs.Halves.{read_half, write_halves, half_after}
use Rattle.meanings.specs.Meaning.{Act, act, double, registers, lengths_in, numbers_in}
use Rattle.meanings.proofs.Actions.{Sound}
use Rattle.operations.specs.Operations.{result_of, Sized}
use Rattle.effects.specs.Effect.{effect, moves}
use Rattle.operations.proofs.Halves.{Halves, low_half, high-half, quad, result-halves, result-lt}

-- a store keeps the file good
pub set-good : (file : File) (k v : ℕ) → Good file → v < 2 ^ 64 → Good (set file k v)
set-good file k v g h = record { size = length-set file k v ∙ g.size; small = stored file k g.small }
  where
    stored : (file : File) (k : ℕ) → ((j : ℕ) → get_or file j 0 < 2 ^ 64) → (j : ℕ) → get_or (set file k v) j 0 < 2 ^ 64
    stored [] k s j = s j
    stored (x ∷ file) zero s zero = h
    stored (x ∷ file) zero s (suc j) = s (suc j)
    stored (x ∷ file) (suc k) s zero = s zero
    stored (x ∷ file) (suc k) s (suc j) = stored file k (λ i. s (suc i)) j

-- a write to a register
module _ (file : File) where
  write-size : (q : Bool) (k v : ℕ) → length (write_r q file k v) ≡ length file
  write-size true k v = length-set (set file k (v % 2 ^ 64)) (k + 1) (v / 2 ^ 64) ∙ length-set file k (v % 2 ^ 64)
  write-size false k v = length-set file k v

  write-other : (q : Bool) (d v k : ℕ) → k ≢ d → (q ≡ true → k ≢ d + 1) → read_d (write_r q file d v) k ≡ read_d file k
  write-other true d v k h u = get_or-set_other (set file d (v % 2 ^ 64)) (d + 1) k (v / 2 ^ 64) 0 (u refl) ∙ get_or-set_other file d k (v % 2 ^ 64) 0 h
  write-other false d v k h u = get_or-set_other file d k v 0 h

-- an act keeps the file's size, and changes only the target's doublewords
module _ (x : Act) (file : File) where
  pub effect-size : length (effect x file) ≡ length file
  unfolding effect
  effect-size = write-size file (lengths_in x).d (numbers_in x).d _

  pub effect-other : (k : ℕ) → k ≢ (numbers_in x).d → ((lengths_in x).d ≡ true → k ≢ (numbers_in x).d + 1) → read_d (effect x file) k ≡ read_d file k
  unfolding effect
  effect-other k h u = write-other file (lengths_in x).d (numbers_in x).d _ k h u

module _ (op : Operation) (file : File) where
  -- what an operation makes of doublewords
  abbrev pub word_of : ℕ → ℕ → ℕ → ℕ
  word_of d n m = result_of 64 op (read_d file d) (read_d file n) (read_d file m)

  -- on doublewords it is one store
  pub word-effect : (d n m : ℕ) → effect (act op (registers false d n m)) file ≡ set file d (word_of d n m)
  unfolding effect
  word-effect d n m = refl

  -- on quadwords it is one write of 128 bits
  pub quad-effect : (d n m : ℕ)
      → effect (act op (registers true d n m)) file ≡ write_r true file d (result_of 128 op (read_r true file d) (read_r true file n) (read_r true file m))
  unfolding effect
  quad-effect d n m = refl

  word_lt : (d n m : ℕ) → Sized op → Good file → word_of d n m < 2 ^ 64
  word_lt d n m s g = result-lt op (read_d file d) (read_d file n) (read_d file m) s (g.small d) (g.small n) (g.small m)

  -- which is a store to each doubleword, both read before either is written
  pub quad-words : (d n m : ℕ) → Sized op → Good file
      → effect (act op (registers true d n m)) file ≡ set (set file d (word_of d n m)) (d + 1) (word_of (d + 1) (n + 1) (m + 1))
  quad-words d n m s g =
      let read : (k : ℕ) → Halves (read_r true file k) (read_d file k) (read_d file (k + 1)) = λ k. quad (g.small k) (g.small (k + 1)) in
      let whole = result-halves op s (read d) (read n) (read m) in
      rw (quad-effect d n m, low_half whole, high-half whole)

  -- so that these stores are its effect
  module _ (r : Registers) (low : ℕ) (l : low ≡ word_of r.d r.n r.m) where
    pub word-stored : r.quad ≡ false → set file r.d low ≡ effect (act op r) file
    unfolding effect
    word-stored q = rw (q, l)

    pub quad-stored : (high : ℕ) → high ≡ word_of (r.d + 1) (r.n + 1) (r.m + 1) → r.quad ≡ true → Sized op → Good file
        → set (set file r.d low) (r.d + 1) high ≡ effect (act op r) file
    quad-stored high h q s g =
        rw (l, h) (sym (ap (λ (q : Bool). effect (act op (registers q r.d r.n r.m)) file) q ∙ quad-words r.d r.n r.m s g))

  -- an operation keeps the file good too
  act-good : (r : Registers) → Sized op → Good file → Good (effect (act op r) file)
  act-good r s g = go r.quad
    where
      low : Good (set file r.d (word_of r.d r.n r.m))
      low = set-good file r.d (word_of r.d r.n r.m) g (word_lt r.d r.n r.m s g)

      go : (q : Bool) → Good (effect (act op (registers q r.d r.n r.m)) file)
      go true =
          rw (quad-words r.d r.n r.m s g)
          (set-good (set file r.d (word_of r.d r.n r.m)) (r.d + 1) (word_of (r.d + 1) (r.n + 1) (r.m + 1)) low (word_lt (r.d + 1) (r.n + 1) (r.m + 1) s g))
      go false = rw (word-effect r.d r.n r.m) low

-- on quadwords it is the effect on their low doublewords and then on their high ones
pub quad-halves : (op : Operation) (t a b : ℕ) (file : File) → Sized op → Good file
    → effect (act op (registers true (2 * t) (2 * a) (2 * b))) file
    ≡ effect (act op (registers false (2 * t + 1) (2 * a + 1) (2 * b + 1))) (effect (act op (registers false (2 * t) (2 * a) (2 * b))) file)
quad-halves op t a b file s g =
    let v = word_of op file (2 * t) (2 * a) (2 * b) in
    let kept : (k : ℕ) → read_d (set file (2 * t) v) (2 * k + 1) ≡ read_d file (2 * k + 1) = λ k. get_or-set_other file (2 * t) (2 * k + 1) v 0 (λ e. let z : ⊥ = omega arith in z) in
    rw (
      quad-words op file (2 * t) (2 * a) (2 * b) s g,
      word-effect op file (2 * t) (2 * a) (2 * b),
      word-effect op (set file (2 * t) v) (2 * t + 1) (2 * a + 1) (2 * b + 1),
      kept t,
      kept a,
      kept b,
    )

-- the mark after an operation on doublewords, and on the high ones of quadwords after the low ones
module _ (op : Operation) (r : Registers) (file : File) (mark : Bool) {low : Bool} (l : low ≡ either mark (moved_by 64 op (read_d file r.n) (read_d file r.m))) where
  pub word-marked : r.quad ≡ false → low ≡ either mark (moves (act op r) file)
  word-marked q = rw q l

  pub quad-marked : {high : Bool} → high ≡ either low (moved_by 64 op (read_d file (r.n + 1)) (read_d file (r.m + 1))) → r.quad ≡ true → Good file
      → high ≡ either mark (moves (act op r) file)
  quad-marked h q g =
      rw q (h ∙ ap (λ (b : Bool). either b (moved_by 64 op (read_d file (r.n + 1)) (read_d file (r.m + 1)))) l
      ∙ either-apart mark (moved_by 64 op (read_d file r.n) (read_d file r.m)) (moved_by 64 op (read_d file (r.n + 1)) (read_d file (r.m + 1)))
      ∙ ap (either mark) (sym (either_half op (read_d file r.n) (read_d file (r.n + 1)) (read_d file r.m) (read_d file (r.m + 1)) (g.small r.n) (g.small r.m))))

-- a register as its two halves
record ByHalves (x low high size : ℕ) : Type 0 where
  whole : x ≡ low + 2 ^ size * high
  below : low < 2 ^ size

by-halves : (q : Bool) (file : File) (k : ℕ) → Good file → ByHalves (read_r q file k) (read_half q file k 0) (read_half q file k 1) (lane_bits q 32)
by-halves true file k g = rw add-zero (record { whole = refl; below = g.small k })
by-halves false file k g = let l = g.small k in record { whole = omega arith; below = omega arith }

write-halves : (q : Bool) (file : File) (k low high : ℕ) → low < 2 ^ lane_bits q 32 → write_r q file k (low + 2 ^ lane_bits q 32 * high) ≡ write_halves q file k low high
write-halves true file k low high l =
    rw (add-mul-mod_self_left low (2 ^ 64) high, mod-eq_of_lt l, add-mul-div_left low high (pow_pos 64), div-eq_of_lt l, zero-add)
write-halves false file k low high l = refl

-- the file stays good where both halves have their bits
halves-good : (q : Bool) (file : File) (k low high : ℕ) → Good file → low < 2 ^ lane_bits q 32 → high < 2 ^ lane_bits q 32 → Good (write_halves q file k low high)
halves-good true file k low high g l h = set-good (set file k low) (k + 1) high (set-good file k low g l) h
halves-good false file k low high g l h = set-good file k (low + 2 ^ 32 * high) g (omega arith)

-- an operation on registers of unlike length
module _ (op : DoubleOp) (w : Width) (r : Numbers) (file : File) (small : bits_of w ≤ 32) (g : Good file) where
  abbrev l : Lengths
  l = lengths_of op

  abbrev after : ℕ → ℕ
  after h = half_after op w r file h

  -- goes by halves, all read before either is written
  pub unlike-halves : effect (double op w r) file ≡ write_halves l.d file r.d (after 0) (after 1)
  unfolding effect
  unlike-halves =
      let d = by-halves l.d file r.d g in
      let n = by-halves l.n file r.n g in
      let m = by-halves l.m file r.m g in
      rw (
        d.whole,
        n.whole,
        m.whole,
        double_halves op w (read_half l.d file r.d 0) (read_half l.d file r.d 1) (read_half l.n file r.n 0) (read_half l.n file r.n 1)
            (read_half l.m file r.m 0) (read_half l.m file r.m 1) small d.below n.below m.below,
      )
      (write-halves l.d file r.d (after 0) (after 1) (half_below op w _ _ _))

  unlike-good : Good (effect (double op w r) file)
  unlike-good = rw unlike-halves (halves-good l.d file r.d (after 0) (after 1) g (half_below op w _ _ _) (half_below op w _ _ _))

  -- so that these stores are its effect
  module _ (low high : ℕ) (el : low ≡ after 0) (eh : high ≡ after 1) where
    pub quad-target-stored : l.d ≡ true → set (set file r.d low) (r.d + 1) high ≡ effect (double op w r) file
    quad-target-stored q = rw (el, eh) (sym (unlike-halves ∙ ap (λ (q : Bool). write_halves q file r.d (after 0) (after 1)) q))

    pub word-target-stored : l.d ≡ false → set file r.d (low + high * 2 ^ 32) ≡ effect (double op w r) file
    word-target-stored q =
        rw (mul_comm high, el, eh) (sym (unlike-halves ∙ ap (λ (q : Bool). write_halves q file r.d (after 0) (after 1)) q))

-- an act keeps the file good
pub effect-good : (x : Act) (file : File) → Sound x → Good file → Good (effect x file)
effect-good (act op r) file s g = act-good op file r s g
effect-good (double op w r) file s g = unlike-good op w r file s g
