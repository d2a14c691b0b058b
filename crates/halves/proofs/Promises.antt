-- The promises of specs/Promises.antt.
-- Assumes nothing.
use mathlib.Core.Path.{◌≡◌, refl, sym, ap, ◌∙◌, subst}
use mathlib.Core.Bool.{Bool, true, false}
use mathlib.Core.List.{[], ◌∷◌}
use mathlib.Core.Logic.{◌≢◌}
use Prim.Native.Nat.{ℕ, ◌+◌, ◌*◌, ◌/◌, ◌%◌, ◌^◌, ◌≤◌, ◌<◌}
use native.Mathlib.Omega.{arith}
use lib.Dec.{eqb, ltb, lit<}
use lib.ListN.{set, length-set}
use lib.Seq.{get_or-set_same, get_or-set_other}
use lib.Text.{eqt}
use borrow.Author.Tests.{eqb-true, eqb-false, ltb-true, ltb-false}
use Rattle.laws.specs.Answer.{Answer, accepted}
use Rattle.laws.specs.Search.{Found, at, none}
use Rattle.laws.specs.Signed.{twos_complement}
use Rattle.laws.proofs.Never.{wrong}
use Rattle.laws.proofs.Search.{least, all-fail}
use Rattle.laws.proofs.Tests.{passed}
use Rattle.insn.specs.declared.Insn.{Insn}
use Rattle.insn.specs.declared.Mark.TheVariants.{T1}
use Rattle.insn.specs.declared.Operand.TheVariants.{D}
use Rattle.names.specs.Names.{name_of, number_of}
use Rattle.tables.specs.Cells.{cell_at}
use Rattle.immediate_tables.specs.Modimm.{modimm}
use Rattle.fields.specs.Halfwords.{bit, field}
use Rattle.fields.specs.Registers.{dnum_of}
use Rattle.immediates.specs.Modified.{constant_at, element, operand_in, zero_refused}
use Rattle.immediate_values.proofs.Immediates.{spelled_back}
use Rattle.readings.specs.Operands.{is_set}
use Rattle.readings.proofs.Parts.{two_operands}
use Rattle.read_immediates.specs.Modimm.{modimm_of, imm8_of, modimm_reading}
use Rattle.decode.specs.Reading.{reading, family_of, in_family}
use Rattle.decode.specs.declared.Family.TheVariants.{ModifiedImmediate}
use Rattle.writings.specs.Forms.{Pair, pair}
use Rattle.writings.proofs.Pairs.{hw1_of, hw2_of}
use Rattle.write_immediates.specs.Modimm.{modimm_pair}
use Rattle.trips.proofs.RoundModimm.{PairFields, pair-fields, pair_reads, packs}
use Rattle.trips.proofs.Routing.{ImmediateBits, Route, routed}
use Rattle.operations.specs.declared.Operation.TheVariants.{Constant}
use Rattle.meanings.specs.Meaning.{Act, act, registers}
use Rattle.meanings.proofs.Actions.{meant}
use Rattle.read_meanings.specs.Constants.{op_at, Expands}
use Rattle.read_meanings.proofs.Constants.{constant_expands}
use Rattle.effects.specs.File.{File, read_d}
use Rattle.effects.specs.Effect.{effect}
use Rattle.effects.proofs.Effects.{quad-words}
use Rattle.machine.specs.State.{State, state, acted}
use Rattle.machine.specs.Step.{step_by, step_read, step_pair}
use Rattle.one_pair.specs.One.{setting, leaves, is_one, one_at, one_for}
use Rattle.one_pair.proofs.Rows.{One, holds}
use Rattle.one_pair.proofs.Promises.{worked_places}
use Rattle.recipes.specs.Pairs.{add_byte, word_pairs, join_pairs, by_words, recipe_of, record_at, recipe_pairs, half_pairs}
use Rattle.recipes.proofs.Places.{double-register, place-writes, one-leaves, leaves-read}
use Rattle.halves.specs.Promises.{SetsAlone, place_of, Lowest, OnlyImmediates, OneWhereOne, LongerElse, Decided, one, longer, OneOrLonger, WorkedHalves}
use Rattle.halves.proofs.Families.{inside, sets-immediate}
use Rattle.halves.proofs.Filled.{all_of, all_read, all-good}
use Rattle.halves.proofs.Places.{pattern_at, pattern-at, place_read, pair-steps, setting-word, setting-effect, one-effect}

-- the name of what is read
record Cell (o c b : ℕ) (i : Insn) : Type 0 where
  zero-free : zero_refused c b ≡ false
  spelled : name_of i.mnemonic ≡ cell_at modimm o c

name_back : (o c : ℕ) → o < 2 → c < 16 → eqt (cell_at modimm o c) "" ≡ false → name_of (number_of (cell_at modimm o c)) ≡ cell_at modimm o c
name_back o c ho hc filled =
    let e1 : (o * 16 + c) / 16 ≡ o = omega arith in
    let e2 : (o * 16 + c) % 16 ≡ c = omega arith in
    rw filled at (rw (e1, e2) at (spelled_back (o * 16 + c) (omega arith)))

read_cell : (o c b d address : ℕ) (quad : Bool) (i : Insn) → o < 2 → c < 16 → modimm_of o c b quad d address ≡ accepted i → Cell o c b i
unfolding modimm_of
read_cell o c b d address quad i ho hc e =
    let p1 = passed (eqt (cell_at modimm o c) "") 3 _ i e in
    let p2 = passed (zero_refused c b) 4 _ i p1.1 in
    let r = two_operands (number_of (cell_at modimm o c)) T1 address _ _ i p2.1 in
    record { zero-free = p2.0; spelled = ap (λ (j : Insn). name_of j.mnemonic) (sym r.is) ∙ name_back o c ho hc p1.0 }

-- the place of a cell with imm8
place-passes : (v o c b : ℕ) → o < 2 → c < 16 → b < 256 → one_at v (o * 4096 + c * 256 + b) ≡ is_one v o c b
place-passes v o c b ho hc hb =
    let t = o * 4096 + c * 256 + b in
    let e1 : bit 12 t ≡ o = omega arith in
    let e2 : field 11 8 t ≡ c = omega arith in
    let e3 : field 7 0 t ≡ b = omega arith in
    rw (e1, e2, e3)

pub only_immediates : OnlyImmediates
only_immediates r v hw1 hw2 hr s = sets-immediate r v hw1 hw2 hr s.first-halfword s.second-halfword s.insn s.read s.named s.leaves

-- A PAIR THAT SETS THE HALF ALONE IS ONE THAT THE SEARCH TAKES
module _ (r v hw1 hw2 : ℕ) (hr : r < 32) (s : SetsAlone r v hw1 hw2) where
  abbrev o : ℕ
  o = bit 5 hw2

  abbrev c : ℕ
  c = field 11 8 hw2

  abbrev b : ℕ
  b = imm8_of hw1 hw2

  abbrev d : ℕ
  d = dnum_of (bit 6 hw1) (field 15 12 hw2)

  abbrev quad : Bool
  quad = is_set (bit 6 hw2)

  family : family_of hw1 hw2 ≡ ModifiedImmediate
  family = only_immediates r v hw1 hw2 hr s

  expands : Expands o c b quad d s.insn
  expands = constant_expands hw1 hw2 0 s.insn family s.read

  its-cell : Cell o c b s.insn
  unfolding reading in_family modimm_reading
  its-cell = read_cell o c b d 0 quad s.insn (omega arith) (omega arith) (rw family at s.read)

  its-name : setting (cell_at modimm o c) ≡ true
  its-name = sym (ap setting its-cell.spelled) ∙ s.named

  abbrev left : ℕ
  left = leaves (cell_at modimm o c) expands.pattern

  abbrev does : Bool → Act
  does q = act (Constant (op_at o c) expands.pattern) (registers q d d d)

  fits : (q : Bool) → quad ≡ q → (expands.pattern < 2 ^ 64) × (q ≡ true → d + 1 < 32)
  fits q e =
      let m = meant s.insn (does q) (rw e at expands.meant) in
      (m.sound, λ t. m.within.target.upper t)

  -- what its step leaves in the file of one number
  after : (q : Bool) → quad ≡ q → (a : ℕ) (h : a < 2 ^ 64) → (s.leaves (all_of a) (all-good a h)).after.file ≡ effect (does q) (all_of a).file
  unfolding step_read step_by acted
  after q e a h =
      let m = rw e at expands.meant in
      let t : step_pair hw1 hw2 (all_of a) ≡ accepted (acted (does q) (all_of a)) =
      ap (λ (x : Answer Insn). step_read x (all_of a)) s.read ∙ ap (λ (x : Answer Act). step_by x (all_of a)) m in
      ap (λ (x : State). x.file) (inside (sym (s.leaves (all_of a) (all-good a h)).stepped ∙ t))

  -- no register but Dr is one number whatever the file
  no_other : (q : Bool) → quad ≡ q → (k : ℕ) → k < 32 → k ≢ r → ((a : ℕ) → a < 2 ^ 64 → read_d (effect (does q) (all_of a).file) k ≡ left) → ⊥
  no_other q e k hk n w =
      let held : (a : ℕ) → a < 2 ^ 64 → left ≡ a = λ a h.
      sym (w a h) ∙ ap (λ (f : File). read_d f k) (sym (after q e a h)) ∙ (s.leaves (all_of a) (all-good a h)).alone.others k n ∙ all_read a k hk in
      both-numbers (held 0 (lit< tt)) (held 1 (lit< tt))
    where
      both-numbers : {x : ℕ} → x ≡ 0 → x ≡ 1 → ⊥
      both-numbers p q = omega arith

  -- a doubleword, and a quadword
  double-at : (a : ℕ) → a < 2 ^ 64 → read_d (effect (does false) (all_of a).file) d ≡ left
  double-at a h =
      rw (setting-effect o c expands.pattern d (all_of a).file (omega arith) (omega arith) its-name)
      (get_or-set_same (all_of a).file d left 0 (rw (all-good a h).size (omega arith)))

  quad-effect : quad ≡ true → (a : ℕ) → a < 2 ^ 64 → effect (does true) (all_of a).file ≡ set (set (all_of a).file d left) (d + 1) left
  quad-effect e a h =
      rw (
        quad-words (Constant (op_at o c) expands.pattern) (all_of a).file d d d (fits true e).0 (all-good a h),
        setting-word o c expands.pattern (read_d (all_of a).file d) (omega arith) (omega arith) its-name (read_d (all_of a).file d) (read_d (all_of a).file d),
        setting-word o c expands.pattern (read_d (all_of a).file (d + 1)) (omega arith) (omega arith) its-name (read_d (all_of a).file (d + 1)) (read_d (all_of a).file (d + 1)),
      )

  not-quad : quad ≡ true → ⊥
  not-quad e = go (eqb d r) refl
    where
      within : d + 1 < 32
      within = (fits true e).1 refl

      go : (t : Bool) → eqb d r ≡ t → ⊥
      go true t =
          let same = eqb-true d r t in
          no_other true e (d + 1) within (λ z. let b : ⊥ = omega arith in b)
          (λ a h. rw (quad-effect e a h) (get_or-set_same (set (all_of a).file d left) (d + 1) left 0 (rw (length-set (all_of a).file d left, (all-good a h).size) within)))
      go false t =
          no_other true e d (omega arith) (eqb-false d r t)
          (λ a h.
          rw (quad-effect e a h)
          (get_or-set_other (set (all_of a).file d left) (d + 1) d left 0 (λ z. let b : ⊥ = omega arith in b)
          ∙ get_or-set_same (all_of a).file d left 0 (rw (all-good a h).size (omega arith))))

  single : quad ≡ false
  single = go quad refl
    where
      go : (t : Bool) → quad ≡ t → t ≡ false
      go true e = absurd (not-quad e)
      go false e = refl

  target : d ≡ r
  target = go (eqb d r) refl
    where
      go : (t : Bool) → eqb d r ≡ t → d ≡ r
      go true t = eqb-true d r t
      go false t = absurd (no_other false single d (omega arith) (eqb-false d r t) double-at)

  its-value : left ≡ v
  its-value =
      let zero : 0 < 2 ^ 64 = lit< tt in
      let l = s.leaves (all_of 0) (all-good 0 zero) in
      sym (double-at 0 zero) ∙ ap (λ (f : File). read_d f d) (sym (after false single 0 zero)) ∙ ap (read_d l.after.file) target ∙ l.alone.here

  passes-there : one_at v (place_of hw1 hw2) ≡ true
  passes-there =
      place-passes v o c b (omega arith) (omega arith) (omega arith)
      ∙ holds v o c b (record { named = its-name; zero = its-cell.zero-free; pattern = expands.pattern; expanded = expands.expanded; left = its-value })

  -- with its register and its place it is the pair itself
  its-pair : modimm_pair (place_of hw1 hw2) false r ≡ pair hw1 hw2
  its-pair =
      let f : ImmediateBits hw1 hw2 true = subst (Route hw1 hw2) family (routed hw1 hw2) in
      sym (ap (λ (q : Bool). modimm_pair (place_of hw1 hw2) q r) single) ∙ sym (ap (modimm_pair (place_of hw1 hw2) quad) target)
      ∙ packs hw1 hw2 s.first-halfword s.second-halfword f

-- WHAT THE SEARCH TAKES SETS THE HALF ALONE
whole : (p : Pair) → p ≡ pair (hw1_of p) (hw2_of p)
whole (pair a b) = refl

module _ (r v t : ℕ) (hr : r < 32) (ht : t < 8192) (one : One v (bit 12 t) (field 11 8 t) (field 7 0 t)) where
  abbrev p : Pair
  p = modimm_pair t false r

  its-fields : PairFields (hw1_of p) (hw2_of p) t false r
  its-fields = pair-fields t r false ht hr (hw1_of p) (hw2_of p) (whole p)

  sets-alone : SetsAlone r v (hw1_of p) (hw2_of p)
  sets-alone =
      let i = double-register r hr in
      let read = leaves-read v t ht one in
      record {
        first-halfword = its-fields.first-halfword;
        second-halfword = its-fields.second-halfword;
        insn = record_at (D r) t;
        read = pair_reads t r false ht hr (hw1_of p) (hw2_of p) 0 (whole p) ∙ place_read i read;
        named = ap setting (name_back (bit 12 t) (field 11 8 t) (omega arith) (omega arith) read.filled) ∙ one.named;
        leaves = λ s g.
            record {
              after = state (set s.file r v) s.mark;
              stepped = pair-steps i read (pattern_at t) (pattern-at t one.pattern one.expanded) (hw1_of p) (hw2_of p) (whole p) s
                  ∙ ap (λ (f : File). accepted (state f s.mark)) (one-effect r v t ht one s.file);
              alone = record { here = get_or-set_same s.file r v 0 (rw g.size hr); others = λ k n. get_or-set_other s.file r k v 0 n };
            };
      }

  its-place : place_of (hw1_of p) (hw2_of p) ≡ t
  its-place =
      let f = its-fields in
      let same : bit 12 t * 4096 + field 11 8 t * 256 + field 7 0 t ≡ t = omega arith in
      ap (λ (x : ℕ). x * 4096 + field 11 8 (hw2_of p) * 256 + imm8_of (hw1_of p) (hw2_of p)) f.op-back
      ∙ ap (λ (x : ℕ). bit 12 t * 4096 + x * 256 + imm8_of (hw1_of p) (hw2_of p)) f.cmode-back
      ∙ ap (λ (x : ℕ). bit 12 t * 4096 + field 11 8 t * 256 + x) f.imm8-back
      ∙ same

-- the search
clash : {A : Type 0} (b : Bool) → b ≡ true → b ≡ false → A
clash b p q = wrong (sym q ∙ p)

module _ (v : ℕ) where
  none-lower : (t u : ℕ) → one_for v ≡ at t → one_at v u ≡ true → t ≤ u
  unfolding one_for
  none-lower t u e y = go (ltb u t) refl
    where
      go : (x : Bool) → ltb u t ≡ x → t ≤ u
      go true x = clash (one_at v u) y (least (one_at v) 8192 t e u (ltb-true u t x))
      go false x = ltb-false u t x

  not_none : (u : ℕ) → u < 8192 → one_at v u ≡ true → one_for v ≡ none → ⊥
  unfolding one_for
  not_none u h y e = clash (one_at v u) y (all-fail (one_at v) 8192 e u h)

-- the recipe by it
half-one : (r v t : ℕ) → one_for v ≡ at t → half_pairs r v ≡ record_at (D r) t ∷ []
unfolding recipe_of recipe_pairs
half-one r v t e = rw e

half-long : (r v : ℕ) → one_for v ≡ none → half_pairs r v ≡ recipe_pairs r (by_words v)
unfolding recipe_of
half-long r v e = rw e

pub one_where_one : OneWhereOne
one_where_one r v hw1 hw2 hr s = go (one_for v) refl
  where
    go : (f : Found) → one_for v ≡ f → Lowest r v (half_pairs r v)
    go none e = absurd (not_none v (place_of hw1 hw2) (omega arith) (passes-there r v hw1 hw2 hr s) e)
    go (at t) e =
        let o = one-leaves v t e in
        let place = its-place r v t hr o.1 o.0 in
        record {
          one = record_at (D r) t;
          single = half-one r v t e;
          hw1 = hw1_of (modimm_pair t false r);
          hw2 = hw2_of (modimm_pair t false r);
          wrote = place-writes (double-register r hr) (leaves-read v t o.1 o.0) ∙ ap accepted (whole (modimm_pair t false r));
          sets = sets-alone r v t hr o.1 o.0;
          lowest = λ hw3 hw4 q. subst (λ (x : ℕ). x ≤ place_of hw3 hw4) (sym place) (none-lower v t (place_of hw3 hw4) e (passes-there r v hw3 hw4 hr q));
          only = λ hw3 hw4 q same.
              sym (its-pair r v hw3 hw4 hr q) ∙ ap (λ (x : ℕ). modimm_pair x false r) (same ∙ place) ∙ whole (modimm_pair t false r);
        }

pub longer_else : LongerElse
longer_else r v hr n = go (one_for v) refl
  where
    go : (f : Found) → one_for v ≡ f → half_pairs r v ≡ recipe_pairs r (by_words v)
    go (at t) e = let o = one-leaves v t e in absurd (n _ _ (sets-alone r v t hr o.1 o.0))
    go none e = half-long r v e

pub one_or_longer : OneOrLonger
one_or_longer r v hr = go (one_for v) refl
  where
    go : (f : Found) → one_for v ≡ f → Decided r v
    go (at t) e = let o = one-leaves v t e in one t e (one_where_one r v _ _ hr (sets-alone r v t hr o.1 o.0))
    go none e =
        longer e (λ hw1 hw2 s. not_none v (place_of hw1 hw2) (omega arith) (passes-there r v hw1 hw2 hr s) e) (half-long r v e)

pub worked_halves : WorkedHalves
unfolding modimm constant_at operand_in element twos_complement by_words recipe_pairs word_pairs add_byte join_pairs
worked_halves r = (
  half-one r 0xffff_ffff_ffff_ffff 0x0eff worked_places.1,
  half-one r 0xffff_ff00_ffff_ff00 0x10ff worked_places.2,
  half-one r 0xff 0x1e01 worked_places.4,
  half-long r 1 worked_places.5,
)
