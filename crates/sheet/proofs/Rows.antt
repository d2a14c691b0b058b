-- A register file as rows, and an operation on quadwords as one store to a row.
-- Assumes nothing.
use mathlib.Core.Path.{◌≡◌, refl, ap}
use mathlib.Core.Bool.{true}
use mathlib.Core.List.{[], ◌∷◌}
use Prim.Native.Nat.{ℕ, zero, suc, ◌+◌, ◌*◌, ◌/◌, ◌%◌, ◌^◌, ◌<◌}
use native.Mathlib.Nat.{add_comm, mul_comm}
use native.Mathlib.Omega.{arith}
use lib.Arith.{digits_lt}
use lib.ListN.{length, get_or, set, take}
use lib.Seq.{take-set-lt, get_or-take}
use Rattle.operations.specs.declared.Operation.{Operation}
use Rattle.effects.specs.File.{File, Good, read_r}
use Rattle.meanings.specs.Meaning.{Act, act, registers}
use Rattle.operations.specs.Operations.{result_of}
use Rattle.effects.specs.Effect.{effect}
use Rattle.effects.proofs.Effects.{quad-effect}
use Rattle.steps.specs.Meaning.{paired, rows_of, row_at}
use Rattle.sheet.proofs.Doing.{doing, doing-cons, doing-nil}

pub paired-set : (file : File) (t x y : ℕ) → 2 * t + 1 < length file → paired (set (set file (2 * t) x) (2 * t + 1) y) ≡ set (paired file) t (x + 2 ^ 64 * y)
paired-set [] t x y h = refl
paired-set (a ∷ []) zero x y h = absurd (let b : ⊥ = omega arith in b)
paired-set (a ∷ []) (suc t) x y h = absurd (let b : ⊥ = omega arith in b)
paired-set (a ∷ b ∷ file) zero x y h = refl
paired-set (a ∷ b ∷ file) (suc t) x y h =
    let e : 2 * suc t + 1 ≡ suc (suc (2 * t + 1)) = omega arith in
    let g : 2 * suc t ≡ suc (suc (2 * t)) = omega arith in
    rw (e, g, paired-set file t x y (omega arith))

pub paired-get : (file : File) (t : ℕ) → 2 * t + 1 < length file → get_or (paired file) t 0 ≡ read_r true file (2 * t)
paired-get [] t h = absurd (let b : ⊥ = omega arith in b)
paired-get (a ∷ []) zero h = absurd (let b : ⊥ = omega arith in b)
paired-get (a ∷ []) (suc t) h = absurd (let b : ⊥ = omega arith in b)
paired-get (a ∷ b ∷ file) zero h = refl
paired-get (a ∷ b ∷ file) (suc t) h =
    let e : 2 * suc t + 1 ≡ suc (suc (2 * t + 1)) = omega arith in
    let g : 2 * suc t ≡ suc (suc (2 * t)) = omega arith in
    rw (e, g, paired-get file t (omega arith))

pub paired-length : (n : ℕ) (file : File) → length file ≡ 2 * n → length (paired file) ≡ n
paired-length zero [] h = refl
paired-length zero (a ∷ file) h = absurd (let b : ⊥ = omega arith in b)
paired-length (suc n) [] h = absurd (let b : ⊥ = omega arith in b)
paired-length (suc n) (a ∷ []) h = absurd (let b : ⊥ = omega arith in b)
paired-length (suc n) (a ∷ b ∷ file) h = ap suc (paired-length n file (omega arith))

pub take-paired : (n : ℕ) (file : File) → take n (paired file) ≡ paired (take (2 * n) file)
take-paired zero file = refl
take-paired (suc n) [] = let e : 2 * suc n ≡ suc (suc (2 * n)) = omega arith in rw e
take-paired (suc n) (a ∷ []) = let e : 2 * suc n ≡ suc (suc (2 * n)) = omega arith in rw e
take-paired (suc n) (a ∷ b ∷ file) = let e : 2 * suc n ≡ suc (suc (2 * n)) = omega arith in rw (e, take-paired n file)

-- a number below 2^128 in two halves
joined : (v : ℕ) → v % 2 ^ 64 + 2 ^ 64 * (v / 2 ^ 64) ≡ v
joined v = omega arith

-- an operation on quadwords
abbrev pub quad : Operation → ℕ → ℕ → ℕ → Act
quad op t n m = act op (registers true (2 * t) (2 * n) (2 * m))

module _ (op : Operation) (t n m : ℕ) (file : File) (ht : t < 16) (hn : n < 16) (hm : m < 16) (size : length file ≡ 32) where
  abbrev after : File
  after = effect (quad op t n m) file

  -- is one store to a row
  pub quad-row : paired after ≡ set (paired file) t (result_of 128 op (row_at (paired file) t) (row_at (paired file) n) (row_at (paired file) m))
  quad-row =
      let v = result_of 128 op (read_r true file (2 * t)) (read_r true file (2 * n)) (read_r true file (2 * m)) in
      rw (
        quad-effect op file (2 * t) (2 * n) (2 * m),
        paired-set file t (v % 2 ^ 64) (v / 2 ^ 64) (omega arith),
        joined v,
        paired-get file t (omega arith),
        paired-get file n (omega arith),
        paired-get file m (omega arith),
      )

-- and where all three are rows of the sheet
module _ (op : Operation) (t n m : ℕ) (file : File) (ht : t < 14) (hn : n < 14) (hm : m < 14) (size : length file ≡ 32) where
  pub one : rows_of (doing (quad op t n m ∷ []) file)
      ≡ set (rows_of file) t (result_of 128 op (row_at (rows_of file) t) (row_at (rows_of file) n) (row_at (rows_of file) m))
  unfolding rows_of
  one =
      rw (
        doing-cons,
        doing-nil,
        get_or-take 14 (paired file) t 0 ht,
        get_or-take 14 (paired file) n 0 hn,
        get_or-take 14 (paired file) m 0 hm,
        quad-row op t n m file (omega arith) (omega arith) (omega arith) size,
      )
      (take-set-lt 14 (paired file) t _ ht)

-- a row has 128 bits
pub row_lt : (file : File) (r : ℕ) → r < 14 → Good file → row_at (rows_of file) r < 2 ^ 128
unfolding rows_of
row_lt file r h g =
    let z = g.size in
    rw (get_or-take 14 (paired file) r 0 h, paired-get file r (omega arith), add_comm (get_or file (2 * r) 0), mul_comm (2 ^ 64) (get_or file (2 * r + 1) 0))
    (digits_lt (g.small (2 * r + 1)) (g.small (2 * r)))
