-- The promises of specs/Promises.antt.
-- Assumes nothing.
use mathlib.Core.Path.{◌≡◌, refl, ap}
use mathlib.Core.Bool.{Bool, true, false}
use Prim.Native.Nat.{ℕ, ◌+◌, ◌*◌, ◌/◌, ◌%◌, ◌<◌}
use native.Mathlib.Omega.{arith}
use lib.Dec.{eqb, ltb}
use borrow.Author.Tests.{lt-ltb, eq-eqb, eqb-true, ltb-true}
use Rattle.laws.specs.Answer.{accepted, refused}
use Rattle.laws.specs.Choice.{choose}
use Rattle.laws.proofs.Digits.{digit}
use Rattle.laws.proofs.Never.{never}
use Rattle.insn.specs.declared.Operand.TheVariants.{D, Q, S, Imm, Float, Other, Absent}
use Rattle.insn.proofs.Promises.{numbered_apart}
use Rattle.std.specs.Prelude.{Ok, Err}
use Rattle.fields.specs.Registers.{bits, vec_of, vec_bits}
use Rattle.fields.specs.Halfwords.{first, second}
use Rattle.fields.specs.Promises.{BitsOfVec, VecOfBits, FirstUnpacked, SecondUnpacked, FirstPacked, SecondPacked, BitsApart}

pub bits_of_vec : BitsOfVec
unfolding vec_of vec_bits
bits_of_vec false d reg l e = let k : reg ≡ D d = cc in rw (k, lt-ltb d 32 l)
bits_of_vec true d reg l e = go (eqb (d % 2) 0) refl e
  where
    go : (b : Bool) → eqb (d % 2) 0 ≡ b → choose b (accepted (Q (d / 2))) (refused 6) ≡ accepted reg → vec_bits reg ≡ accepted (bits true d)
    go true t f =
        let even : d % 2 ≡ 0 = eqb-true (d % 2) 0 t in
        let k : reg ≡ Q (d / 2) = cc in
        rw (k, lt-ltb (d / 2) 16 (omega arith)) (ap (λ (n : ℕ). accepted (bits true n)) (omega arith))
    go false t f = never (cc)

pub vec_of_bits : VecOfBits
unfolding vec_of vec_bits
vec_of_bits q d (D n) e = go (ltb n 32) refl e
  where
    go : (b : Bool) → ltb n 32 ≡ b → choose b (accepted (bits false n)) (refused 8) ≡ accepted (bits q d) → (vec_of q d ≡ accepted (D n)) × (d < 32)
    go true t f = (let k : false ≡ q = cc in let m : n ≡ d = cc in rw (← k, ← m), let m : n ≡ d = cc in omega (arith, ltb-true n 32 t))
    go false t f = never (cc)
vec_of_bits q d (Q n) e = go (ltb n 16) refl e
  where
    go : (b : Bool) → ltb n 16 ≡ b → choose b (accepted (bits true (2 * n))) (refused 8) ≡ accepted (bits q d) → (vec_of q d ≡ accepted (Q n)) × (d < 32)
    go true t f =
        let k : true ≡ q = cc in
        let m : 2 * n ≡ d = cc in
        let half : d / 2 ≡ n = omega arith in
        let even : d % 2 ≡ 0 = omega arith in
        (rw (← k, eq-eqb (d % 2) 0 even, half), omega (arith, ltb-true n 16 t))
    go false t f = never (cc)
vec_of_bits q d (S n) e = never (cc)
vec_of_bits q d (Imm v) e = never (cc)
vec_of_bits q d (Float x) e = never (cc)
vec_of_bits q d Other e = never (cc)
vec_of_bits q d Absent e = never (cc)

pub first_unpacked : FirstUnpacked
first_unpacked u a d x hu ha hd hx = omega arith

pub second_unpacked : SecondUnpacked
second_unpacked vd o b7 b6 b5 b4 y h1 h2 h3 h4 h5 h6 h7 = omega arith

-- a halfword is the sum of its digits, each at its place
first-sum : (h x h6 d h7 a h8 m h12 u h13 : ℕ) → h6 * 64 + x ≡ h → h7 * 2 + d ≡ h6 → h8 * 2 + a ≡ h7 → h12 * 16 + m ≡ h8 → h13 * 2 + u ≡ h12 → h13 ≡ 7 → m ≡ 15 → first u a d x ≡ h
first-sum h x h6 d h7 a h8 m h12 u h13 e1 e2 e3 e4 e5 e6 e7 = omega arith

pub first_packed : FirstPacked
first_packed h l top middle =
    let top7 : h / 8192 ≡ 7 = omega arith in
    let low6 : h / 64 * 64 + h / 1 % 64 ≡ h = omega arith in
    first-sum h (h / 1 % 64) (h / 64) (h / 64 % 2) (h / 128) (h / 128 % 2) (h / 256) (h / 256 % 16) (h / 4096) (h / 4096 % 2) (h / 8192) low6 (digit h 64 2) (digit h 128 2) (digit h 256 16) (digit h 4096 2) top7 middle

second-sum : (h y h4 b4 h5 b5 h6 b6 h7 b7 h8 o h12 : ℕ) → h4 * 16 + y ≡ h → h5 * 2 + b4 ≡ h4 → h6 * 2 + b5 ≡ h5 → h7 * 2 + b6 ≡ h6 → h8 * 2 + b7 ≡ h7 → h12 * 16 + o ≡ h8 → second h12 o b7 b6 b5 b4 y ≡ h
second-sum h y h4 b4 h5 b5 h6 b6 h7 b7 h8 o h12 e1 e2 e3 e4 e5 e6 = omega arith

pub second_packed : SecondPacked
second_packed h l =
    let top4 : h / 4096 % 16 ≡ h / 4096 = omega arith in
    let low4 : h / 16 * 16 + h / 1 % 16 ≡ h = omega arith in
    rw top4 (second-sum h (h / 1 % 16) (h / 16) (h / 16 % 2) (h / 32) (h / 32 % 2) (h / 64) (h / 64 % 2) (h / 128) (h / 128 % 2) (h / 256) (h / 256 % 16) (h / 4096) low4 (digit h 16 2) (digit h 32 2) (digit h 64 2) (digit h 128 2) (digit h 256 16))

pub bits_apart : BitsApart
bits_apart (Ok (p, a)) (Ok (q, b)) e = let k : p ≡ q = cc in let m : a ≡ b = cc in λ i. Ok (k i, m i)
bits_apart (Ok (p, a)) (Err g) e = never (cc)
bits_apart (Err f) (Ok (q, b)) e = never (cc)
bits_apart (Err f) (Err g) e = ap Err (numbered_apart f g (cc))
