-- What the meaning of a record can be: refusal 10, or an operation on registers that the file has, the first place's its target.
-- Assumes nothing.
use mathlib.Core.Path.{◌≡◌, refl, ap, subst, ◌∙◌}
use mathlib.Core.Bool.{Bool, true, false, beq}
use Prim.Native.Nat.{ℕ, ◌*◌, ◌^◌, ◌<◌, ◌≤◌}
use native.Mathlib.Nat.{mod-lt}
use native.Mathlib.Omega.{arith}
use lib.Dec.{ltb, leb, eqb, lit<}
use borrow.Author.Tests.{ltb-true, leb-true}
use Rattle.laws.specs.Answer.{Answer, accepted, refused, and_then}
use Rattle.laws.specs.Choice.{choose}
use Rattle.insn.specs.declared.Insn.{Insn}
use Rattle.insn.specs.declared.Operand.{Operand}
use Rattle.insn.specs.declared.Operand.TheVariants.{D, Q, S, Imm, Float, Other, Absent}
use Rattle.names.specs.Names.{name_of}
use Rattle.laws.specs.Search.{Found, at, none}
use Rattle.laws.proofs.Never.{never}
use Rattle.laws.proofs.Tests.{both_true}
use Rattle.fields.specs.Registers.{Bits, bits, vec_bits}
use Rattle.floats.specs.Floats.{float_bits}
use Rattle.floats.specs.Found.{find_float}
use Rattle.immediates.specs.Modified.{copies}
use Rattle.insn.specs.declared.Width.{Width}
use Rattle.insn.specs.declared.Width.TheVariants.{B8, B16, B32, B64}
use Rattle.tables.specs.declared.lengths.Lengths.{Lengths}
use Rattle.tables.specs.Lengths.{lengths}
use Rattle.lanes.specs.declared.LaneOp.TheVariants.{Shl, Shr}
use Rattle.double_lanes.specs.declared.LongOp.TheVariants as long
use Rattle.double_lanes.specs.declared.NarrowOp.TheVariants as narrow
use Rattle.double_lanes.specs.declared.DoubleOp.{DoubleOp}
use Rattle.double_lanes.specs.declared.DoubleOp.TheVariants.{Long, Narrow}
use Rattle.double_lanes.specs.Double.{lengths_of}
use Rattle.insn.specs.Widths.{bits_of}
use Rattle.forms.proofs.Promises as forms
use Rattle.forms.proofs.Promises.{shift_to32}
use Rattle.operations.specs.declared.BitOp.TheVariants.{Mov}
use Rattle.operations.specs.declared.ConstantOp.TheVariants as constant
use Rattle.operations.specs.declared.Operation.{Operation}
use Rattle.operations.specs.declared.Operation.TheVariants.{Lanes, Bits as Bitwise, Constant}
use Rattle.forms.specs.declared.Direction.{Direction}
use Rattle.forms.specs.declared.Direction.TheVariants as way
use Rattle.forms.specs.declared.Form.{Form}
use Rattle.forms.specs.declared.Form.TheVariants as form
use Rattle.meanings.specs.declared.Numbers.{Numbers}
use Rattle.forms.specs.Forms.{form_of}
use Rattle.meanings.specs.Meaning.{Act, act, double, registers, numbers, lengths_in, numbers_in, Trio, trio, gathered, same_lengths, acting, on, doubling, on_unlike, whole_pattern, pattern_at, float_pattern, repeated, shifting, count_of, meaning_in, meaning_of}
use Rattle.operations.specs.Operations.{Sized}
use Rattle.meanings.specs.Own.{InFile, Within}

pub repeated_lt : (w : Width) (p : ℕ) → repeated w p < 2 ^ 64
unfolding repeated
repeated_lt B8 p = let h = mod-lt p {m = 256} (lit< tt) in omega arith
repeated_lt B16 p = let h = mod-lt p {m = 65536} (lit< tt) in omega arith
repeated_lt B32 p = let h = mod-lt p {m = 4294967296} (lit< tt) in omega arith
repeated_lt B64 p = let h = mod-lt p {m = 18446744073709551616} (lit< tt) in omega arith

bits-lt : (b : ℕ) → float_bits b < 2 ^ 32
bits-lt b = omega arith

-- a float's pattern has 64 bits
float_lt : (o : Operand) (p : ℕ) → float_pattern o ≡ accepted p → p < 2 ^ 64
unfolding float_pattern
float_lt (Float x) p e = go (find_float x) e
  where
    go : (f : Found) → pattern_at f ≡ accepted p → p < 2 ^ 64
    go (at b) k = let m : copies 2 32 (float_bits b) ≡ p = cc in let l = bits-lt b in omega arith
    go none k = never (cc)
float_lt (D n) p e = never (cc)
float_lt (Q n) p e = never (cc)
float_lt (S n) p e = never (cc)
float_lt (Imm v) p e = never (cc)
float_lt Other p e = never (cc)
float_lt Absent p e = never (cc)

-- what holds of every refusal, and of each operation on the first place's register, holds of every meaning
module _ (P : Answer Act → Type 0) (stop : (n : ℕ) → P (refused n)) where
  pick : (t : Bool) {x : Answer Act} → P x → P (choose t x (refused 10))
  pick true h = h
  pick false h = stop 10

  module _ (a : Operand) (each : (op : Operation) (b c : Operand) → Sized op → P (on op a b c))
      (every : (op : DoubleOp) (w : Width) (b c : Operand) → leb (bits_of w) 32 ≡ true → P (on_unlike op w a b c)) where
    shift_by : (way : Direction) (w : Width) (k : ℕ) (b : Operand) → shift_to32 way w ≡ true → P (shifting way w k a b)
    shift_by way.Left w k b h = each (Lanes (Shl k) w) b b tt
    shift_by (way.Right s) w k b h = each (Lanes (Shr s k) w) b b tt
    shift_by (way.Long s) w k b h = every (Long (long.Shl k) s) w b b h
    shift_by way.Narrow w k b h = every (Narrow (narrow.Shr k)) w b b h

    in-form : (f : Form) (b c : Operand) → forms.form_to32 f ≡ true → P (meaning_in f a b c)
    unfolding meaning_in
    in-form (form.Lanes op w) b c h = each (Lanes op w) b c tt
    in-form (form.Bits op) b c h = each (Bitwise op) b c tt
    in-form form.Copy b c h = each (Bitwise Mov) b b tt
    in-form (form.Shift way w) b c h = go (whole_pattern c)
      where
        go : (x : Answer ℕ) → P (and_then x (λ k. choose (leb k 64) (shifting way w k a b) (refused 10)))
        go (accepted k) = pick (leb k 64) (shift_by way w k b h)
        go (refused m) = stop m
    in-form (form.Double op w) b c h = every op w b c h
    in-form (form.Extend s w) b c h = every (Long long.Mov s) w b b h
    in-form (form.Number op w) b c h = go (whole_pattern b)
      where
        go : (x : Answer ℕ) → P (and_then x (λ p. on (Constant op (repeated w p)) a a a))
        go (accepted p) = each (Constant op (repeated w p)) a a (repeated_lt w p)
        go (refused n) = stop n
    in-form form.Float b c h = go (float_pattern b) (float_lt b)
      where
        go : (x : Answer ℕ) → ((p : ℕ) → x ≡ accepted p → p < 2 ^ 64) → P (and_then x (λ p. on (Constant constant.Mov p) a a a))
        go (accepted p) h = each (Constant constant.Mov p) a a (h p refl)
        go (refused n) h = stop n
    in-form form.Nothing b c h = stop 10

  pub any-meaning : (i : Insn) → ((op : Operation) (b c : Operand) → Sized op → P (on op i.first b c))
      → ((op : DoubleOp) (w : Width) (b c : Operand) → leb (bits_of w) 32 ≡ true → P (on_unlike op w i.first b c)) → P (meaning_of i)
  unfolding meaning_of
  any-meaning i each every =
      let f = form_of (name_of i.mnemonic) in
      pick (eqb i.count (count_of f)) (in-form i.first each every f i.second i.third (forms.all-to32 i.mnemonic))

-- a register that has a number is in the file
in-file : (x : Operand) (q : Bool) (d : ℕ) → vec_bits x ≡ accepted (bits q d) → InFile q d
unfolding vec_bits
in-file (D n) q d e = go (ltb n 32) refl e
  where
    go : (b : Bool) → ltb n 32 ≡ b → choose b (accepted (bits false n)) (refused 8) ≡ accepted (bits q d) → InFile q d
    go true t f =
        record { lower = let m : n ≡ d = cc in omega (arith, ltb-true n 32 t); upper = λ k. never (let p : false ≡ q = cc in cc) }
    go false t f = never (cc)
in-file (Q n) q d e = go (ltb n 16) refl e
  where
    go : (b : Bool) → ltb n 16 ≡ b → choose b (accepted (bits true (2 * n))) (refused 8) ≡ accepted (bits q d) → InFile q d
    go true t f = let m : 2 * n ≡ d = cc in let l = ltb-true n 16 t in record { lower = omega arith; upper = λ k. omega arith }
    go false t f = never (cc)
in-file (S n) q d e = never (cc)
in-file (Imm v) q d e = never (cc)
in-file (Float x) q d e = never (cc)
in-file Other q d e = never (cc)
in-file Absent q d e = never (cc)

-- lengths that are the same
same_length : (p q : Bool) → beq p q ≡ true → p ≡ q
same_length true true e = refl
same_length false false e = refl
same_length true false e = never (cc)
same_length false true e = never (cc)

pub same-lengths : (x y : Lengths) → same_lengths x y ≡ true → x ≡ y
same-lengths x y e =
    let h = both_true (beq x.d y.d) _ e in
    let k = both_true (beq x.n y.n) _ h.1 in
    λ i. lengths (same_length x.d y.d h.0 i) (same_length x.n y.n k.0 i) (same_length x.m y.m k.1 i)

-- what holds of the operation: a constant, if it has one, is of 64 bits; lanes of unlike width have at most 32 in a doubleword
abbrev pub Sound : Act → Type 0
Sound (act op r) = Sized op
Sound (double op w r) = bits_of w ≤ 32

-- what holds of an act whose target is in the place a
pub record Fits (a : Operand) (x : Act) : Type 0 where
  pub within : Within (lengths_in x) (numbers_in x).d (numbers_in x).n (numbers_in x).m
  pub sound : Sound x
  pub target : vec_bits a ≡ accepted (bits (lengths_in x).d (numbers_in x).d)

-- registers that were found
record Found3 (a : Operand) (l : Lengths) (r : Numbers) : Type 0 where
  inside : Within l r.d r.n r.m
  first : vec_bits a ≡ accepted (bits l.d r.d)

found3 : (a b c : Operand) (x y z : Answer Bits) (l : Lengths) (r : Numbers) → vec_bits a ≡ x → vec_bits b ≡ y → vec_bits c ≡ z
    → gathered x y z ≡ accepted (trio l r) → Found3 a l r
unfolding gathered
found3 a b c (accepted (bits p d)) (accepted (bits q n)) (accepted (bits t m)) l r ea eb ec e =
    let kl : lengths p q t ≡ l = cc in
    let kr : numbers d n m ≡ r = cc in
    rw (← kl, ← kr)
    (record {
      inside = record { target = in-file a p d ea; first = in-file b q n eb; second = in-file c t m ec };
      first = ea;
    })
found3 a b c (accepted (bits p d)) (accepted (bits q n)) (refused k) l r ea eb ec e = never (cc)
found3 a b c (accepted (bits p d)) (refused k) z l r ea eb ec e = never (cc)
found3 a b c (refused k) y z l r ea eb ec e = never (cc)

-- an act on registers that were read, of the lengths that it takes
module _ (a b c : Operand) (x : Act) where
  fits : (y : Act) (l : Lengths) → gathered (vec_bits a) (vec_bits b) (vec_bits c) ≡ accepted (trio l (numbers_in y)) → Sound y
      → (t : Bool) → same_lengths l (lengths_in y) ≡ t → choose t (accepted y) (refused 10) ≡ accepted x → Fits a x
  fits y l eg s true h e =
      let r = numbers_in y in
      let k : y ≡ x = cc in
      let is = found3 a b c (vec_bits a) (vec_bits b) (vec_bits c) l r refl refl refl eg in
      let same = same-lengths l (lengths_in y) h in
      subst (Fits a) k
      (record {
        within = subst (λ (j : Lengths). Within j r.d r.n r.m) same is.inside;
        sound = s;
        target = is.first ∙ ap (λ (j : Lengths). accepted (bits j.d r.d)) same;
      })
  fits y l eg s false h e = never (cc)

  acted : (op : Operation) → Sized op → (g : Answer Trio) → gathered (vec_bits a) (vec_bits b) (vec_bits c) ≡ g → acting op g ≡ accepted x → Fits a x
  unfolding acting
  acted op s (accepted (trio l r)) eg e = fits (act op (registers l.d r.d r.n r.m)) l eg s _ refl e
  acted op s (refused n) eg e = never (cc)

  doubled : (op : DoubleOp) (w : Width) → bits_of w ≤ 32 → (g : Answer Trio) → gathered (vec_bits a) (vec_bits b) (vec_bits c) ≡ g → doubling op w g ≡ accepted x → Fits a x
  unfolding doubling
  doubled op w s (accepted (trio l r)) eg e = fits (double op w r) l eg s _ refl e
  doubled op w s (refused n) eg e = never (cc)

pub meant : (i : Insn) (x : Act) → meaning_of i ≡ accepted x → Fits i.first x
meant i =
    any-meaning (λ (g : Answer Act). (x : Act) → g ≡ accepted x → Fits i.first x)
    (λ n x e. never (cc)) i
    (λ op b c s x e. acted i.first b c x op s (gathered (vec_bits i.first) (vec_bits b) (vec_bits c)) refl e)
    (λ op w b c s x e. doubled i.first b c x op w (leb-true (bits_of w) 32 s) (gathered (vec_bits i.first) (vec_bits b) (vec_bits c)) refl e)

-- an operation on registers of one length
one-length : (quad : Bool) → same_lengths (lengths quad quad quad) (lengths quad quad quad) ≡ true
one-length true = refl
one-length false = refl

pub on_alike : (op : Operation) (a b c : Operand) (quad : Bool) (d n m : ℕ)
    → vec_bits a ≡ accepted (bits quad d) → vec_bits b ≡ accepted (bits quad n) → vec_bits c ≡ accepted (bits quad m)
    → on op a b c ≡ accepted (act op (registers quad d n m))
unfolding gathered acting
on_alike op a b c quad d n m ea eb ec = rw (ea, eb, ec, one-length quad)

-- and on registers of the operation's own lengths
pub on-lengths : (op : DoubleOp) (w : Width) (a b c : Operand) (l : Lengths) (d n m : ℕ)
    → vec_bits a ≡ accepted (bits l.d d) → vec_bits b ≡ accepted (bits l.n n) → vec_bits c ≡ accepted (bits l.m m)
    → same_lengths l (lengths_of op) ≡ true → on_unlike op w a b c ≡ accepted (double op w (numbers d n m))
unfolding gathered doubling
on-lengths op w a b c l d n m ea eb ec h = rw (ea, eb, ec, h)
