-- The constant's recipe: its pairs are written, and they leave the constant in its half.
-- Assumes nothing.
use mathlib.Core.Path.{◌≡◌, refl, sym, ◌∙◌, ap}
use mathlib.Core.Bool.{Bool, true, false}
use mathlib.Core.Logic.{◌≢◌}
use mathlib.Core.List.{List, [], ◌∷◌, ◌++◌}
use Prim.Native.Nat.{ℕ, ◌+◌, ◌*◌, ◌/◌, ◌%◌, ◌^◌, ◌≤◌, ◌<◌}
use native.Mathlib.Nat.{mod-eq_of_lt, lt_of_lt_of_le, add-zero}
use native.Mathlib.Omega.{arith}
use lib.Bits.{bit_or, or_block, or_shifted_r, or_zero_r, and_mask, and_high}
use lib.Dec.{eqb, ltb, lit<}
use lib.ListN.{length, get_or, set, take, length-set}
use lib.Pow.{pow_mono, low, high}
use lib.Seq.{take-set-lt, take-set-le, get_or-set_same, get_or-set_other, set-set, length-take-le}
use borrow.Author.Tests.{eqb-true, eqb-false, ltb-true}
use Rattle.laws.specs.Choice.{choose}
use Rattle.laws.specs.Search.{Found, at, none}
use Rattle.laws.proofs.Range.{values, agree, agree2}
use Rattle.insn.specs.declared.Operand.{Operand}
use Rattle.insn.specs.declared.Operand.TheVariants.{D}
use Rattle.immediate_tables.specs.Modimm.{modimm}
use Rattle.fields.specs.Halfwords.{bit, field}
use Rattle.immediates.specs.Modified.{copies}
use Rattle.forms.specs.Forms.{groups, named_forms, form_of}
use Rattle.read_meanings.specs.Constants.{op_at}
use Rattle.one_pair.specs.One.{one_for}
use Rattle.operations.specs.declared.BitOp.TheVariants.{Bif}
use Rattle.operations.specs.declared.ConstantOp.TheVariants.{Mov, Orr}
use Rattle.operations.specs.declared.Operation.TheVariants.{Bits, Constant}
use Rattle.effects.specs.File.{File}
use Rattle.meanings.specs.Meaning.{Act, act, registers, meaning_in}
use Rattle.operations.specs.Operations.{bitwise, result_of}
use Rattle.effects.specs.Effect.{effect}
use Rattle.effects.proofs.Effects.{word-effect}
use Rattle.steps.specs.Meaning.{rows_of}
use Rattle.recipes.specs.declared.Recipe.{Recipe}
use Rattle.recipes.specs.declared.Recipe.TheVariants.{One, Twice, Joined}
use Rattle.recipes.specs.Pairs.{immediate, byte_of, add_byte, word_pairs, join_pairs, by_words, recipe_by, recipe_of, record_at, recipe_pairs, half_pairs, two_of}
use Rattle.recipes.proofs.Names.{bif-known}
use Rattle.recipes.proofs.Places.{Register, double-register, set-standing, zero-byte, join-standing, mask-standing, one-leaves, leaves-read, one_of}
use Rattle.halves.proofs.Places.{pattern_at, pattern-at, place-small, one-effect}
use Rattle.sheet.proofs.Doing.{doing, Does, does-append, doing-cons, doing-nil, doing-append}
use Rattle.sheet.proofs.Executes.{Executes, double-stands, three-executes, place-executes, standing-executes}
use Rattle.sheet.proofs.Names.{bif-means}
use Rattle.sheet.proofs.Rows.{paired-set, take-paired}

-- a word in both words of a doubleword
abbrev twice : ℕ → ℕ
twice x = copies 2 32 x

twice-small : (x : ℕ) → x < 2 ^ 32 → twice x < 2 ^ 64
twice-small x h = omega arith

byte_small : (k b : ℕ) → k < 4 → b < 256 → ltb (b * 2 ^ (8 * k)) (2 ^ 32) ≡ true
unfolding values
byte_small = agree2 (λ (k b : ℕ). ltb (b * 2 ^ (8 * k)) (2 ^ 32)) (λ (k b : ℕ). true) 4 256 refl

-- what the pairs do
abbrev set_word : ℕ → ℕ → Act
set_word r x = act (Constant Mov (twice x)) (registers false r r r)

abbrev join_word : ℕ → ℕ → Act
join_word r x = act (Constant Orr (twice x)) (registers false r r r)

abbrev set_mask : Act
set_mask = act (Constant Mov 4294967295) (registers false 30 30 30)

abbrev join_halves : ℕ → Act
join_halves r = act (Bits Bif) (registers false r 28 30)

add_act : ℕ → ℕ → List Act
add_act r byte = choose (eqb byte 0) [] (join_word r byte ∷ [])

word_acts : ℕ → ℕ → List Act
word_acts r v = set_word r (v % 256) ∷ (add_act r (byte_of v 1) ++ (add_act r (byte_of v 2) ++ add_act r (byte_of v 3)))

one_act : ℕ → ℕ → Act
one_act r t = act (Constant (op_at (bit 12 t) (field 11 8 t)) (pattern_at t)) (registers false r r r)

pub recipe_acts : ℕ → Recipe → List Act
recipe_acts r (One t) = one_act r t ∷ []
recipe_acts r (Twice v) = word_acts r v
recipe_acts r (Joined low high) = word_acts r low ++ (word_acts 28 high ++ (set_mask ∷ join_halves r ∷ []))

abbrev pub half_acts : ℕ → ℕ → List Act
half_acts r v = recipe_acts r (recipe_of v)

-- the operations of their cells
set-op : op_at 0 0 ≡ Mov
unfolding modimm groups named_forms form_of
set-op = refl

join-op : (k : ℕ) → k < 4 → op_at 0 (2 * k + 1) ≡ Orr
unfolding values modimm groups named_forms form_of
join-op = agree (λ (k : ℕ). op_at 0 (2 * k + 1)) (λ (k : ℕ). Orr) 4 refl

mask-op : op_at 1 14 ≡ Mov
unfolding modimm groups named_forms form_of
mask-op = refl

-- VMOV.I32 of a byte
pub set-executes : {quad : Bool} {x : Operand} {d : ℕ} (b : ℕ) → b < 256 → Register quad x d
    → Executes (two_of "vmov.i32" x (immediate b)) (act (Constant Mov (twice b)) (registers quad d d d))
set-executes b h i =
    let top : bit 12 b ≡ 0 = omega arith in
    let middle : field 11 8 b ≡ 0 = omega arith in
    standing-executes Mov i (set-standing b h) (rw (top, middle) set-op)

-- the recipe's pairs do this
module _ (r : ℕ) (hr : r < 32) where
  add-does : (b k : ℕ) → b < 256 → k < 4 → Does (add_byte r (b * 2 ^ (8 * k))) (add_act r (b * 2 ^ (8 * k)))
  unfolding add_byte add_act
  add-does b k hb hk = go (eqb (b * 2 ^ (8 * k)) 0) refl
    where
      byte : ℕ
      byte = b * 2 ^ (8 * k)

      joins : b ≢ 0 → Executes (two_of "vorr.i32" (D r) (immediate byte)) (join_word r byte)
      joins n =
          let top : bit 12 ((2 * k + 1) * 256 + b) ≡ 0 = omega arith in
          let middle : field 11 8 ((2 * k + 1) * 256 + b) ≡ 2 * k + 1 = omega arith in
          standing-executes Orr (double-register r hr) (join-standing k b hk hb n) (rw (top, middle) (join-op k hk))

      go : (t : Bool) → eqb byte 0 ≡ t → Does (choose t [] (two_of "vorr.i32" (D r) (immediate byte) ∷ [])) (choose t [] (join_word r byte ∷ []))
      go true e = tt
      go false e = (joins (eqb-false b 0 (sym (zero-byte k b hk hb) ∙ e)), (twice-small byte (ltb-true byte (2 ^ 32) (byte_small k b hk hb)), tt))

  word-does : (v : ℕ) → Does (word_pairs r v) (word_acts r v)
  unfolding word_pairs word_acts
  word-does v = (
    set-executes (v % 256) (omega arith) (double-register r hr),
    (
      twice-small (v % 256) (omega arith),
      does-append (add_byte r (byte_of v 1)) _ (add_act r (byte_of v 1)) _ (add-does (v / 2 ^ 8 % 256) 1 (omega arith) (omega arith))
          (does-append (add_byte r (byte_of v 2)) _ (add_act r (byte_of v 2)) _ (add-does (v / 2 ^ 16 % 256) 2 (omega arith) (omega arith))
          (add-does (v / 2 ^ 24 % 256) 3 (omega arith) (omega arith))),
    ),
  )

join-does : (r : ℕ) → r < 32 → Does (join_pairs r) (set_mask ∷ join_halves r ∷ [])
unfolding join_pairs meaning_in
join-does r hr = (
  standing-executes Mov (double-register 30 (lit< tt)) mask-standing mask-op,
  (lit< tt, (three-executes (double-stands r hr) (double-stands 28 (lit< tt)) (double-stands 30 (lit< tt)) (Bits Bif) (λ z n m. refl) bif-known bif-means refl refl, (tt, tt))),
)

-- the one pair of a half
one-does : (r v t : ℕ) → r < 32 → one_for v ≡ at t → Does (record_at (D r) t ∷ []) (one_act r t ∷ [])
unfolding one_act
one-does r v t hr e =
    let o = one-leaves v t e in
    let i = double-register r hr in
    let read = leaves-read v t o.1 o.0 in
    let pattern = pattern-at t o.0.pattern o.0.expanded in
    (place-executes _ (pattern_at t) i read refl pattern, (place-small i read (pattern_at t) pattern, tt))

pub half-does : (r v : ℕ) → r < 32 → Does (half_pairs r v) (half_acts r v)
unfolding recipe_pairs recipe_acts
half-does r v hr = go (recipe_of v) refl
  where
    go : (h : Recipe) → recipe_of v ≡ h → Does (recipe_pairs r h) (recipe_acts r h)
    go (One t) e = one-does r v t hr (one_of v t e)
    go (Twice w) e = word-does r hr w
    go (Joined low high) e =
        does-append (word_pairs r low) (word_pairs 28 high ++ join_pairs r) (word_acts r low) (word_acts 28 high ++ (set_mask ∷ join_halves r ∷ [])) (word-does r hr low)
        (does-append (word_pairs 28 high) (join_pairs r) (word_acts 28 high) (set_mask ∷ join_halves r ∷ []) (word-does 28 (lit< tt) high) (join-does r hr))

-- a byte above what is there
join-byte : (x b p : ℕ) → x < 2 ^ p → p ≤ 24 → b * 2 ^ p < 2 ^ 32 → bit_or (twice x) (twice (b * 2 ^ p)) ≡ twice (x + b * 2 ^ p)
join-byte x b p h g k =
    let y = b * 2 ^ p in
    let e : twice x ≡ x * 2 ^ 32 + x = omega arith in
    let f : twice y ≡ y * 2 ^ 32 + y = omega arith in
    let hx : x < 2 ^ 32 = lt_of_lt_of_le h (pow_mono {i = p} {j = 32} (omega arith)) in
    rw (e, f, or_block 32 x y x y hx k, or_shifted_r b p x h) (omega arith)

module _ (file : File) (r : ℕ) (size : length file ≡ 32) (hr : r < 32) where
  set-left : (x : ℕ) → effect (act (Constant Mov (twice x)) (registers false r r r)) file ≡ set file r (twice x)
  unfolding result_of
  set-left x = rw (word-effect (Constant Mov (twice x)) file r r r, add-zero (twice x))

  add_left : (byte x : ℕ) → doing (add_act r byte) (set file r x) ≡ set file r (bit_or x (twice byte))
  unfolding add_act result_of
  add_left byte x = go (eqb byte 0) refl
    where
      go : (t : Bool) → eqb byte 0 ≡ t → doing (choose t [] (join_word r byte ∷ [])) (set file r x) ≡ set file r (bit_or x (twice byte))
      go true e = let z : byte ≡ 0 = eqb-true byte 0 e in rw (doing-nil, z, or_zero_r)
      go false e =
          rw (
            doing-cons,
            doing-nil,
            word-effect (Constant Orr (twice byte)) (set file r x) r r r,
            get_or-set_same file r x 0 (omega arith),
            set-set,
            add-zero (twice byte),
          )

  word-left : (v : ℕ) → v < 2 ^ 32 → doing (word_acts r v) file ≡ set file r (twice v)
  unfolding word_acts
  word-left v h =
      let b0 = v % 256 in
      let b1 = v / 2 ^ 8 % 256 in
      let b2 = v / 2 ^ 16 % 256 in
      let b3 = v / 2 ^ 24 % 256 in
      let top : b3 ≡ v / 2 ^ 24 = mod-eq_of_lt (omega arith) in
      let s : b0 + b1 * 2 ^ 8 + b2 * 2 ^ 16 + b3 * 2 ^ 24 ≡ v = rw top (omega arith) in
      rw (
        doing-cons,
        set-left b0,
        doing-append (add_act r (b1 * 2 ^ 8)) (add_act r (b2 * 2 ^ 16) ++ add_act r (b3 * 2 ^ 24)) (set file r (twice b0)),
        add_left (b1 * 2 ^ 8) (twice b0),
        join-byte b0 b1 8 (omega arith) (omega arith) (omega arith),
        doing-append (add_act r (b2 * 2 ^ 16)) (add_act r (b3 * 2 ^ 24)) (set file r (twice (b0 + b1 * 2 ^ 8))),
        add_left (b2 * 2 ^ 16) (twice (b0 + b1 * 2 ^ 8)),
        join-byte (b0 + b1 * 2 ^ 8) b2 16 (omega arith) (omega arith) (omega arith),
        add_left (b3 * 2 ^ 24) (twice (b0 + b1 * 2 ^ 8 + b2 * 2 ^ 16)),
        join-byte (b0 + b1 * 2 ^ 8 + b2 * 2 ^ 16) b3 24 (omega arith) (omega arith) (omega arith),
        s,
      )

-- the mask takes the low word of one and the high word of the other
merged : (lo hi : ℕ) → lo < 2 ^ 32 → hi < 2 ^ 32 → bitwise 64 Bif (twice lo) (twice hi) 4294967295 ≡ hi * 2 ^ 32 + lo
merged lo hi p q =
    let e : (x : ℕ) → twice x ≡ x * 2 ^ 32 + x = λ x. omega arith in
    let a : twice lo % 2 ^ 32 ≡ lo = ap (λ (n : ℕ). n % 2 ^ 32) (e lo) ∙ low lo 32 p in
    let b : twice hi / 2 ^ 32 % 2 ^ 32 ≡ hi = ap (λ (n : ℕ). n / 2 ^ 32 % 2 ^ 32) (e hi) ∙ ap (λ (n : ℕ). n % 2 ^ 32) (high hi 32 q) ∙ mod-eq_of_lt q in
    rw (and_mask (twice lo) 32, a, and_high (twice hi) 32 32, b) (or_shifted_r hi 32 lo p)

module _ (file : File) (r v : ℕ) (size : length file ≡ 32) (hr : r < 28) (hv : v < 2 ^ 64) where
  abbrev lo : ℕ
  lo = v % 2 ^ 32

  abbrev hi : ℕ
  hi = v / 2 ^ 32

  -- the file with both words, and with the mask
  abbrev f1 : File
  f1 = set file r (twice lo)

  abbrev f2 : File
  f2 = set f1 28 (twice hi)

  abbrev f3 : File
  f3 = set f2 30 4294967295

  different : take 28 (doing (word_acts r lo ++ (word_acts 28 hi ++ (set_mask ∷ join_halves r ∷ []))) file) ≡ set (take 28 file) r v
  unfolding result_of
  different =
      let s1 : length f1 ≡ 32 = length-set file r (twice lo) ∙ size in
      let s2 : length f2 ≡ 32 = length-set f1 28 (twice hi) ∙ s1 in
      let d : get_or f3 r 0 ≡ twice lo = get_or-set_other f2 30 r 4294967295 0 (λ z. let b : ⊥ = omega arith in b) ∙ get_or-set_other f1 28 r (twice hi) 0 (λ z. let b : ⊥ = omega arith in b) ∙ get_or-set_same file r (twice lo) 0 (omega arith) in
      let n : get_or f3 28 0 ≡ twice hi = get_or-set_other f2 30 28 4294967295 0 (λ z. let b : ⊥ = omega arith in b) ∙ get_or-set_same f1 28 (twice hi) 0 (omega arith) in
      let m : get_or f3 30 0 ≡ 4294967295 = get_or-set_same f2 30 4294967295 0 (omega arith) in
      let w : hi * 2 ^ 32 + lo ≡ v = omega arith in
      rw (
        doing-append (word_acts r lo) (word_acts 28 hi ++ (set_mask ∷ join_halves r ∷ [])) file,
        word-left file r size (omega arith) lo (omega arith),
        doing-append (word_acts 28 hi) (set_mask ∷ join_halves r ∷ []) f1,
        word-left f1 28 s1 (omega arith) hi (omega arith),
        doing-cons,
        word-effect (Constant Mov 4294967295) f2 30 30 30,
        doing-cons,
        doing-nil,
        word-effect (Bits Bif) f3 r 28 30,
        d,
        n,
        m,
        merged lo hi (omega arith) (omega arith),
        w,
        take-set-lt 28 f3 r v hr,
        take-set-le 28 f2 30 4294967295 (omega arith),
        take-set-le 28 f1 28 (twice hi) (omega arith),
        take-set-lt 28 file r (twice lo) hr,
        set-set,
      )

  words_left : take 28 (doing (recipe_acts r (by_words v)) file) ≡ set (take 28 file) r v
  unfolding recipe_acts by_words
  words_left = go (eqb lo hi) refl
    where
      go : (t : Bool) → eqb lo hi ≡ t → take 28 (doing (recipe_acts r (choose t (Twice lo) (Joined lo hi))) file) ≡ set (take 28 file) r v
      go true e =
          let s : lo ≡ hi = eqb-true lo hi e in
          let f : twice lo ≡ v = omega arith in
          rw (word-left file r size (omega arith) lo (omega arith), f) (take-set-lt 28 file r v hr)
      go false e = different

  pub half-left : take 28 (doing (half_acts r v) file) ≡ set (take 28 file) r v
  unfolding recipe_acts recipe_of one_act
  half-left = go (one_for v) refl
    where
      go : (f : Found) → one_for v ≡ f → take 28 (doing (recipe_acts r (recipe_by f v)) file) ≡ set (take 28 file) r v
      go (at t) e =
          let o = one-leaves v t e in
          rw (doing-cons, doing-nil, one-effect r v t o.1 o.0 file) (take-set-lt 28 file r v hr)
      go none e = words_left

-- the low half, then the high
pub constant-left : (file : File) (t low high : ℕ) → length file ≡ 32 → length (doing (half_acts (2 * t) low) file) ≡ 32 → t < 14 → low < 2 ^ 64 → high < 2 ^ 64
    → rows_of (doing (half_acts (2 * t) low ++ half_acts (2 * t + 1) high) file) ≡ set (rows_of file) t (low + 2 ^ 64 * high)
unfolding rows_of
constant-left file t low high size s h p q =
    let f = doing (half_acts (2 * t) low) file in
    rw (
      take-paired 14 (doing (half_acts (2 * t) low ++ half_acts (2 * t + 1) high) file),
      take-paired 14 file,
      doing-append (half_acts (2 * t) low) (half_acts (2 * t + 1) high) file,
      half-left f (2 * t + 1) high s (omega arith) q,
      half-left file (2 * t) low size (omega arith) p,
    )
    (paired-set (take 28 file) t low high (rw (length-take-le 28 file (omega arith)) (omega arith)))
