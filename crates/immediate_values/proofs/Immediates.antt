-- The place op:cmode:imm8 of a value, by a formula: antt computes that every place that is read has the formula's for its name and value.
-- Assumes nothing.
use mathlib.Core.Path.{◌≡◌, refl, sym, ap, ◌∙◌}
use mathlib.Core.Bool.{Bool, true, false, not}
use mathlib.Core.Logic.{◌≢◌}
use Prim.Native.Nat.{ℕ, ◌+◌, ◌*◌, ◌/◌, ◌%◌, ◌^◌, ◌<◌}
use Prim.Native.String.{String}
use native.Mathlib.Omega.{arith}
use lib.Dec.{T, eqb, ltb}
use lib.IntN.{ℤ, pos}
use lib.Ieee as Ieee
use lib.Text.{eqt, eqt_refl}
use borrow.Author.Tests.{eqb-true, eqb-false, ltb-true, eq-eqb, ne_eqb}
use Rattle.std.specs.Option.{option_eq}
use Rattle.std.specs.Prelude.{Option, Some, None}
use Rattle.laws.specs.Answer.{accepted, refused}
use Rattle.laws.specs.Choice.{choose, both}
use Rattle.laws.specs.Search.{at, none}
use Rattle.laws.specs.Signed.{twos_complement, modulo}
use Rattle.laws.proofs.Range.{values, agree}
use Rattle.laws.proofs.Search.{hit, only, nothing, all-fail, candidate}
use Rattle.laws.proofs.Never.{wrong}
use Rattle.insn.specs.declared.Operand.{Operand}
use Rattle.insn.specs.declared.Operand.TheVariants.{Imm, Float}
use Rattle.tables.specs.Cells.{cell_at, cell_number}
use Rattle.homes.specs.Home.{home_of}
use Rattle.immediate_tables.specs.Modimm.{modimm}
use Rattle.names.specs.Names.{names, name_of, number_of}
use Rattle.homes.specs.declared.Home.TheVariants.{Modimm}
use Rattle.tables.proofs.Cells.{cell16}
use Rattle.homes.proofs.Cells.{first_row, Stands, filled, modimm-stands, modimm-home}
use Rattle.names.proofs.Known.{named}
use Rattle.names.proofs.Promises.{numbers_back}
use Rattle.fields.specs.Halfwords.{bit, field}
use Rattle.floats.specs.Floats.{float_of}
use Rattle.floats.specs.Found.{find_float}
use Rattle.immediates.specs.Modified.{Constant, byte, each_bit, float, undefined, constant_at, element, operand_in, modimm_operand, needs_nonzero}
use Rattle.floats.proofs.Promises.{float_once}
use Rattle.laws.proofs.Promises.{bits_back}
use Rattle.laws.proofs.Signed.{modulo-pos}
use Rattle.writings.specs.Numbers.{or_nine}
use Rattle.immediate_values.specs.Immediates.{same_value, immediate_reads, immediate_of}
use Rattle.immediate_values.specs.Own.{byte_bits, halfword_offset, word_offset, OnlyPlace}
use Rattle.writings.proofs.Tests.{same_number_lem}
use Rattle.laws.proofs.Tests.{both_true, both-no, not-holds, same_text}

-- the fields of a place
abbrev pub op : ℕ → ℕ
op t = bit 12 t

abbrev pub cmode : ℕ → ℕ
cmode t = field 11 8 t

abbrev pub imm8 : ℕ → ℕ
imm8 t = field 7 0 t

pub row_of : (t : ℕ) → t < 8192 → cell_at modimm (op t) (cmode t) ≡ cell16 modimm (t / 256)
row_of t h = let top : op t ≡ t / 256 / 16 = omega arith in rw top

pub record Reads (name : String) (value : Operand) (t : ℕ) : Type 0 where
  pub spelled : cell_at modimm (op t) (cmode t) ≡ name
  pub zero : both (eqb (imm8 t) 0) (needs_nonzero (cmode t)) ≡ false
  pub carried : same_value (modimm_operand (op t) (cmode t) (imm8 t)) value ≡ true

pub says : (name : String) (value : Operand) (t : ℕ) → immediate_reads name value (op t) (cmode t) (imm8 t) ≡ true → Reads name value t
unfolding immediate_reads
says name value t e =
    let a = both_true (eqt (cell_at modimm (op t) (cmode t)) name) _ e in
    let b = both_true (not (both (eqb (imm8 t) 0) (needs_nonzero (cmode t)))) _ a.1 in
    record { spelled = same_text _ name a.0; zero = not-holds _ b.0; carried = b.1 }

-- the code's formula
abbrev pub guess : ℕ → ℕ → ℕ
guess cell p =
    choose (eqb (cell % 16) 14) (choose (ltb cell 16) (cell * 256 + p % 256) (cell * 256 + byte_bits p))
    (choose (ltb (cell % 16) 8) (cell * 256 + word_offset p) (cell * 256 + halfword_offset p))

-- the constants that are numbers
abbrev is_number : Constant → Bool
is_number (byte bits place ones) = true
is_number each_bit = true
is_number float = false
is_number undefined = false

abbrev pub is_float : Constant → Bool
is_float (byte bits place ones) = false
is_float each_bit = false
is_float float = true
is_float undefined = false

-- a place that holds a number and takes its imm8
abbrev holds : ℕ → Bool
holds t = both (is_number (constant_at (op t) (cmode t))) (not (both (eqb (imm8 t) 0) (needs_nonzero (cmode t))))

abbrev again : ℕ → ℕ
again t = choose (holds t) (guess (first_row (t / 256)) (element (constant_at (op t) (cmode t)) (imm8 t))) t

back : (t : ℕ) → t < 8192 → again t ≡ t
unfolding values constant_at element needs_nonzero
back = agree again (λ (t : ℕ). t) 8192 refl

-- an element has 64 bits
abbrev fits : ℕ → Bool
fits t = ltb (element (constant_at (op t) (cmode t)) (imm8 t)) (2 ^ 64)

element-fits : (t : ℕ) → t < 8192 → element (constant_at (op t) (cmode t)) (imm8 t) < 2 ^ 64
unfolding values constant_at element
element-fits t h = ltb-true (element (constant_at (op t) (cmode t)) (imm8 t)) (2 ^ 64) (agree fits (λ (t : ℕ). true) 8192 refl t h)

-- the constant of a number, and its pattern
carried-number : (k : Constant) (b : ℕ) (v : ℤ) → element k b < 2 ^ 64 → same_value (operand_in k b) (Imm v) ≡ true → (is_number k ≡ true) × (element k b ≡ modulo 64 v)
unfolding operand_in
carried-number (byte bits place ones) b v h e =
    (refl, sym (modulo-pos 64 (element (byte bits place ones) b) h) ∙ ap (modulo 64) (same_number_lem (pos (element (byte bits place ones) b)) v e))
carried-number each_bit b v h e =
    (refl, sym (bits_back 64 (element each_bit b) h) ∙ ap (modulo 64) (same_number_lem (twos_complement 64 (element each_bit b)) v e))
carried-number float b v h e = wrong e
carried-number undefined b v h e = wrong e

-- a place that is read as a number: its row's name, and the formula's place
pub number_read : (name : String) (v : ℤ) (t : ℕ) → t < 8192 → immediate_reads name (Imm v) (op t) (cmode t) (imm8 t) ≡ true
    → (t ≡ guess (first_row (t / 256)) (modulo 64 v)) × (cell16 modimm (t / 256) ≡ name) × (is_number (constant_at (op t) (cmode t)) ≡ true)
number_read name v t h e =
    let r = says name (Imm v) t e in
    let w = carried-number (constant_at (op t) (cmode t)) (imm8 t) v (element-fits t h) r.carried in
    (sym (rw (w.0, r.zero, w.1) at (back t h)), sym (row_of t h) ∙ r.spelled, w.0)

-- a row of numbers has a name, and the name's first row is its own
abbrev unnamed : ℕ → Bool
unnamed r = choose (is_number (constant_at (r / 16) (r % 16))) (eqt (cell16 modimm r) "") false

number-named : (r : ℕ) → r < 32 → unnamed r ≡ false
unfolding values modimm constant_at
number-named = agree unnamed (λ (r : ℕ). false) 32 refl

pub one-first : (r s : ℕ) → r < 32 → s < 32 → is_number (constant_at (r / 16) (r % 16)) ≡ true → cell16 modimm r ≡ cell16 modimm s → first_row r ≡ first_row s
one-first r s hr hs n e =
    let filled : eqt (cell16 modimm r) "" ≡ false = rw n at (number-named r hr) in
    let here = modimm-home false r hr filled in
    let there = modimm-home false s hs (ap (λ (t : String). eqt t "") (sym e) ∙ filled) in
    cc (sym here ∙ ap (λ (t : String). home_of (name_of (number_of t)) false) e ∙ there)

pub number-once : (name : String) (v : ℤ) (t u : ℕ) → t < 8192 → u < 8192 → immediate_reads name (Imm v) (op t) (cmode t) (imm8 t) ≡ true
    → immediate_reads name (Imm v) (op u) (cmode u) (imm8 u) ≡ true → t ≡ u
number-once name v t u ht hu et eu =
    let p = number_read name v t ht et in
    let q = number_read name v u hu eu in
    let top : op t ≡ t / 256 / 16 = omega arith in
    let first = one-first (t / 256) (u / 256) (omega arith) (omega arith) (rw top at p.2) (p.1 ∙ sym q.1) in
    p.0 ∙ rw first (sym q.0)

module _ (m cell : ℕ) (home : home_of (name_of m) false ≡ Modimm cell) where
  stands : Stands m cell 32 (cell16 modimm)
  stands = modimm-stands false m cell home

  -- a row with the mnemonic's name has its cell for the first
  pub first_of : (r : ℕ) → r < 32 → cell16 modimm r ≡ name_of m → first_row r ≡ cell
  first_of r h e =
      let number : number_of (cell16 modimm r) ≡ m = ap number_of e ∙ numbers_back m stands.known in
      let row : eqt (cell16 modimm r) "" ≡ false = ap (λ (s : String). eqt s "") e ∙ named m stands.known in
      let here : home_of (name_of m) false ≡ Modimm (first_row r) = rw number at (modimm-home false r h row) in
      cc (sym here ∙ home)

  pub only-number : (v : ℤ) → OnlyPlace (name_of m) (Imm v) (guess cell (modulo 64 v))
  only-number v u l e =
      let r = number_read (name_of m) v u l e in
      rw (first_of (u / 256) (omega arith) r.1) at r.0

-- the third operand does not change it
pub plain_home : (number : Bool) (m cell : ℕ) → home_of (name_of m) number ≡ Modimm cell → home_of (name_of m) false ≡ Modimm cell
plain_home number m cell e =
    let s = modimm-stands number m cell e in
    let here : number_of (cell16 modimm cell) ≡ m = ap number_of s.spelled ∙ numbers_back m s.known in
    let first : first_row cell ≡ cell = cc (sym (rw here at (modimm-home number cell s.within (filled s))) ∙ e) in
    rw (here, first) at (modimm-home false cell s.within (filled s))

-- a first row leaves room for the formula's offset
abbrev roomy : ℕ → Bool
roomy r =
    choose (eqb (first_row r) r)
    (choose (eqt (cell16 modimm r) "") true (choose (ltb (r % 16) 8) (ltb r 18) (choose (eqb (r % 16) 14) true (ltb r 26))))
    true

room : (r : ℕ) → r < 32 → roomy r ≡ true
unfolding values modimm
room = agree roomy (λ (r : ℕ). true) 32 refl

word_small : (p : ℕ) → word_offset p < 3584
word_small p = go (ltb p 0x100) (ltb p 0x1_0000) (ltb p 0x100_0000) (eqb (p % 0x100) 0) (eqb (p % 0x1_0000) 0) refl refl refl
  where
    go : (a b c x y : Bool) → ltb p 0x100 ≡ a → ltb p 0x1_0000 ≡ b → ltb p 0x100_0000 ≡ c
        → choose a p (choose b (choose x 0x200 0xc00 + p / 0x100) (choose c (choose y 0x400 0xd00 + p / 0x1_0000) (0x600 + p / 0x100_0000 % 256))) < 3584
    go true b c x y ea eb ec = omega (arith, ltb-true p 0x100 ea)
    go false true c true y ea eb ec = omega (arith, ltb-true p 0x1_0000 eb)
    go false true c false y ea eb ec = omega (arith, ltb-true p 0x1_0000 eb)
    go false false true x true ea eb ec = omega (arith, ltb-true p 0x100_0000 ec)
    go false false true x false ea eb ec = omega (arith, ltb-true p 0x100_0000 ec)
    go false false false x y ea eb ec = omega arith

halfword-small : (p : ℕ) → halfword_offset p < 768
halfword-small p = go (ltb p 0x100) refl
  where
    go : (a : Bool) → ltb p 0x100 ≡ a → choose a p (0x200 + p / 0x100 % 256) < 768
    go true e = omega (arith, ltb-true p 0x100 e)
    go false e = omega arith

guess_small : (cell p : ℕ) → cell < 32
    → choose (ltb (cell % 16) 8) (ltb cell 18) (choose (eqb (cell % 16) 14) true (ltb cell 26)) ≡ true → guess cell p < 8192
guess_small cell p h = go (eqb (cell % 16) 14) (ltb cell 16) (ltb (cell % 16) 8) refl refl
  where
    go : (a b c : Bool) → eqb (cell % 16) 14 ≡ a → ltb (cell % 16) 8 ≡ c → choose c (ltb cell 18) (choose a true (ltb cell 26)) ≡ true
        → choose a (choose b (cell * 256 + p % 256) (cell * 256 + byte_bits p)) (choose c (cell * 256 + word_offset p) (cell * 256 + halfword_offset p)) < 8192
    go true true c ea ec e = omega arith
    go true false c ea ec e = omega arith
    go false b true ea ec e = omega (arith, word_small p, ltb-true cell 18 e)
    go false b false ea ec e = omega (arith, halfword-small p, ltb-true cell 26 e)

-- what the candidate promises
pub only-candidate : (m cell p r : ℕ) → home_of (name_of m) false ≡ Modimm cell → p < 2 ^ 64 → r ≡ guess cell p → (r < 8192) × OnlyPlace (name_of m) (Imm (twos_complement 64 p)) r
only-candidate m cell p r home h e =
    let s = stands m cell home in
    let first : first_row cell ≡ cell = first_of m cell home cell s.within s.spelled in
    let roomly = rw (eq-eqb (first_row cell) cell first, filled s) at (room cell s.within) in (
      rw e (guess_small cell p s.within roomly),
      rw e (rw (bits_back 64 p h) at (only-number m cell home (twos_complement 64 p))),
    )

-- the search for a number, by its candidate
pub number-place : (name : String) (value : Operand) (g : ℕ) → g < 8192 → OnlyPlace name value g
    → choose (immediate_reads name value (op g) (cmode g) (imm8 g)) (accepted g) (refused 9) ≡ immediate_of name value
number-place name value g h one =
    go (immediate_reads name value (op g) (cmode g) (imm8 g))
    ∙ ap or_nine (sym (candidate (λ (t : ℕ). immediate_reads name value (op t) (cmode t) (imm8 t)) 8192 g h one))
  where
    go : (b : Bool) → choose b (accepted g) (refused 9) ≡ or_nine (choose b (at g) none)
    go true = refl
    go false = refl

-- a cell has a mnemonic's number exactly if it has its name
pub spelled_back : (r : ℕ) → r < 32 → choose (eqt (cell16 modimm r) "") (cell16 modimm r) (name_of (number_of (cell16 modimm r))) ≡ cell16 modimm r
unfolding values modimm names name_of number_of
spelled_back = agree (λ (r : ℕ). choose (eqt (cell16 modimm r) "") (cell16 modimm r) (name_of (number_of (cell16 modimm r)))) (cell16 modimm) 32 refl

no_number : number_of "" ≡ 65535
unfolding names number_of
no_number = refl

holds_of : (b : Bool) → T b → b ≡ true
holds_of true t = refl
holds_of false t = absurd t

pub equal : (s : String) → eqt s s ≡ true
equal s = holds_of (eqt s s) (eqt_refl s)

not-fails : (a : Bool) → not a ≡ false → a ≡ true
not-fails true e = refl
not-fails false e = wrong (sym e)

-- what a comparison of a table's cell with a mnemonic says
pub same-cell : (x : Option ℕ) (m : ℕ) → not (option_eq eqb x (Some m)) ≡ false → cell_number x ≡ m
same-cell (Some k) m e = eqb-true k m (not-fails _ e)
same-cell None m e = wrong (sym e)

pub other-cell : (x : Option ℕ) (m : ℕ) → m < 346 → not (option_eq eqb x (Some m)) ≡ true → cell_number x ≡ m → ⊥
other-cell (Some k) m h e s = eqb-false k m (not-holds _ e) s
other-cell None m h e s = omega arith

module _ (m t : ℕ) (hm : m < 346) (ht : t < 8192) where
  pub its-name : number_of (cell16 modimm (t / 256)) ≡ m → eqt (cell_at modimm (op t) (cmode t)) (name_of m) ≡ true
  its-name e = rw (row_of t ht) (go (eqt (cell16 modimm (t / 256)) "") refl)
    where
      go : (b : Bool) → eqt (cell16 modimm (t / 256)) "" ≡ b → eqt (cell16 modimm (t / 256)) (name_of m) ≡ true
      go true b =
          let far : 65535 ≡ m = sym no_number ∙ ap number_of (sym (same_text _ "" b)) ∙ e in
          absurd (let z : ⊥ = omega arith in z)
      go false b =
          let same : name_of m ≡ cell16 modimm (t / 256) = rw (b, e) at (spelled_back (t / 256) (omega arith)) in
          rw same (equal (cell16 modimm (t / 256)))

  pub other_name : (number_of (cell16 modimm (t / 256)) ≡ m → ⊥) → eqt (cell_at modimm (op t) (cmode t)) (name_of m) ≡ false
  other_name n = rw (row_of t ht) (go (eqt (cell16 modimm (t / 256)) (name_of m)) refl)
    where
      go : (b : Bool) → eqt (cell16 modimm (t / 256)) (name_of m) ≡ b → b ≡ false
      go true e = absurd (n (ap number_of (same_text _ _ e) ∙ numbers_back m hm))
      go false e = refl

-- FLOATS: VMOV.F32 stands in row 15 alone
pub float-rows : (r : ℕ) → r < 32 → is_float (constant_at (r / 16) (r % 16)) ≡ eqb r 15
unfolding values constant_at
float-rows = agree (λ (r : ℕ). is_float (constant_at (r / 16) (r % 16))) (λ (r : ℕ). eqb r 15) 32 refl

carried-float : (k : Constant) (b : ℕ) (x : Ieee.Float) → same_value (operand_in k b) (Float x) ≡ true → (is_float k ≡ true) × (Ieee.eq (float_of b) x ≡ true)
unfolding operand_in
carried-float (byte bits place ones) b x e = wrong e
carried-float each_bit b x e = wrong e
carried-float float b x e = (refl, e)
carried-float undefined b x e = wrong e

-- a place that is read as a float: row 15, and the float's imm8
pub float_read : (name : String) (x : Ieee.Float) (t : ℕ) → t < 8192 → immediate_reads name (Float x) (op t) (cmode t) (imm8 t) ≡ true
    → (t / 256 ≡ 15) × (Ieee.eq (float_of (imm8 t)) x ≡ true)
float_read name x t h e =
    let w = carried-float (constant_at (op t) (cmode t)) (imm8 t) x (says name (Float x) t e).carried in
    let top : op t ≡ t / 256 / 16 = omega arith in
    (eqb-true (t / 256) 15 (sym (float-rows (t / 256) (omega arith)) ∙ (rw top at w.0)), w.1)

float-here : (x : Ieee.Float) (b : ℕ) → immediate_reads "vmov.f32" (Float x) 0 15 b ≡ Ieee.eq (float_of b) x
unfolding immediate_reads modimm needs_nonzero constant_at operand_in
float-here x b = rw (both-no (eqb b 0))

module _ (x : Ieee.Float) (f : Ieee.fits Ieee.binary64 x ≡ true) where
  abbrev here : ℕ → Bool
  here t = immediate_reads "vmov.f32" (Float x) (op t) (cmode t) (imm8 t)

  at-float : (b : ℕ) → b < 256 → here (0xf00 + b) ≡ Ieee.eq (float_of b) x
  at-float b h =
      let e1 : op (0xf00 + b) ≡ 0 = omega arith in
      let e2 : cmode (0xf00 + b) ≡ 15 = omega arith in
      let e3 : imm8 (0xf00 + b) ≡ b = omega arith in
      rw (e1, e2, e3) (float-here x b)

  pub float_found : (b : ℕ) → find_float x ≡ at b → accepted (0xf00 + b) ≡ immediate_of "vmov.f32" (Float x)
  unfolding find_float
  float_found b e =
      let k = hit (λ (c : ℕ). Ieee.eq (float_of c) x) 256 b e in
      ap or_nine
      (sym
      (only here 8192 (0xf00 + b)
      (λ u l q.
      let r = float_read "vmov.f32" x u l q in
      let same : imm8 u ≡ b = float_once x (imm8 u) b (omega arith) k.1 f r.1 k.0 in
      omega arith)
      (omega arith)
      (at-float b k.1 ∙ k.0)))

  pub float_none : find_float x ≡ none → refused 9 ≡ immediate_of "vmov.f32" (Float x)
  unfolding find_float
  float_none e = ap or_nine (sym (nothing here 8192 (λ u l. go u l (here u) refl)))
    where
      go : (u : ℕ) → u < 8192 → (b : Bool) → here u ≡ b → b ≡ false
      go u l true q =
          let r = float_read "vmov.f32" x u l q in
          wrong (sym (all-fail (λ (c : ℕ). Ieee.eq (float_of c) x) 256 e (imm8 u) (omega arith)) ∙ r.1)
      go u l false q = refl

-- the one mnemonic that takes a float
abbrev takes : ℕ → Bool
takes m = eqt (name_of m) "vmov.f32"

float-name : (m : ℕ) → m < 346 → takes m ≡ eqb m 266
unfolding values names name_of
float-name = agree takes (λ (m : ℕ). eqb m 266) 346 refl

module _ (m cell : ℕ) (home : home_of (name_of m) false ≡ Modimm cell) where
  takes-test : takes m ≡ eqb m 266
  takes-test = float-name m (stands m cell home).known

  pub takes_float : m ≡ 266 → (takes m ≡ true) × (name_of m ≡ "vmov.f32")
  takes_float e = let t = takes-test ∙ eq-eqb m 266 e in (t, same_text (name_of m) "vmov.f32" t)

  pub takes_number : m ≢ 266 → takes m ≡ false
  takes_number n = takes-test ∙ ne_eqb m 266 n
