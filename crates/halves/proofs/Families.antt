-- A pair that is read as a vmov or a vmvn and sets a half alone is of the modified-immediate family.
-- Assumes nothing.
use mathlib.Core.Path.{◌≡◌, refl, sym, ap, ◌∙◌, subst}
use mathlib.Core.Bool.{Bool, true, false}
use mathlib.Core.List.{[], ◌∷◌}
use Prim.Native.Nat.{ℕ, zero, suc, ◌+◌, ◌-◌, ◌*◌, ◌/◌, ◌%◌, ◌^◌, ◌≤◌, ◌<◌}
use Prim.Native.String.{String}
use native.Mathlib.Omega.{arith}
use lib.Dec.{eqb, ltb, lit<}
use lib.ListN.{get_or, set}
use Rattle.laws.specs.Answer.{Answer, accepted, refused}
use Rattle.laws.specs.Choice.{choose}
use Rattle.laws.specs.Signed.{modulo, twos_complement}
use Rattle.laws.proofs.Never.{never, wrong}
use Rattle.laws.proofs.Range.{values, agree, agree-from}
use Rattle.laws.proofs.Tests.{sides, chosen}
use Rattle.insn.specs.declared.Edition.TheVariants.{C}
use Rattle.insn.specs.declared.Insn.{Insn}
use Rattle.insn.specs.declared.Operand.{Operand}
use Rattle.insn.specs.declared.Sign.{Sign}
use Rattle.insn.specs.declared.Sign.TheVariants.{Unsigned, Signed}
use Rattle.insn.specs.declared.Width.{Width}
use Rattle.insn.specs.declared.Width.TheVariants.{B8, B16, B32}
use Rattle.insn.specs.Record.{place_at}
use Rattle.names.specs.Names.{names, name_of}
use Rattle.names.proofs.Spellings.{no_name}
use Rattle.homes.specs.Home.{home_of}
use Rattle.homes.specs.declared.Home.TheVariants.{Modimm}
use Rattle.homes.proofs.Homes.{homes, listed_home, home-at}
use Rattle.fields.specs.Halfwords.{bit, field}
use Rattle.fields.specs.Registers.{vec_bits}
use Rattle.decode.specs.Reading.{reading, family_of}
use Rattle.decode.specs.declared.Family.TheVariants.{ModifiedImmediate}
use Rattle.writings.specs.Forms.{pair, is_quad, is_number}
use Rattle.write_immediates.specs.Modimm.{modimm_pair, modimm_writing}
use Rattle.encode.specs.Writing.{writing}
use Rattle.trips.proofs.Registers.{register-back}
use Rattle.trips.proofs.Routing.{to-modimm}
use Rattle.trips.proofs.RoundModimm.{pair-fields, both-fields}
use Rattle.trips.proofs.Promises.{read_then_written}
use Rattle.arithmetic.specs.Whole.{read_as}
use Rattle.lanes.specs.Lane.{lanewise}
use Rattle.double_lanes.specs.declared.LongOp.TheVariants as long
use Rattle.double_lanes.specs.declared.DoubleOp.{DoubleOp}
use Rattle.double_lanes.specs.declared.DoubleOp.TheVariants.{Long}
use Rattle.double_lanes.specs.Double.{exact_double, double_lane, double_lanes}
use Rattle.double_lanes.specs.Halves.{half_of}
use Rattle.operations.specs.declared.BitOp.TheVariants.{Mov}
use Rattle.operations.specs.declared.Operation.TheVariants.{Bits}
use Rattle.operations.specs.Operations.{result_of}
use Rattle.forms.specs.declared.Form.TheVariants.{Copy, Extend}
use Rattle.forms.specs.Forms.{form_of}
use Rattle.forms.proofs.Numbered.{numbered, form_at, form-at}
use Rattle.meanings.specs.declared.Numbers.{Numbers}
use Rattle.meanings.specs.declared.Registers.{Registers}
use Rattle.meanings.specs.Meaning.{Act, act, double, registers, Trio, trio, gathered, same_lengths, acting, doubling, meaning_in, meaning_of}
use Rattle.meanings.proofs.Actions.{Fits, meant}
use Rattle.effects.specs.File.{File, Good, read_d}
use Rattle.effects.specs.Effect.{effect}
use Rattle.effects.specs.Halves.{half_after}
use Rattle.effects.proofs.Effects.{word-effect, quad-words, unlike-halves}
use Rattle.machine.specs.State.{State, acted}
use Rattle.machine.specs.Step.{step_by, step_read}
use Rattle.one_pair.specs.One.{setting}
use Rattle.halves.specs.Promises.{Leaves}
use Rattle.halves.proofs.Filled.{all_of, all_read, all-good}

-- THE NAMES THAT BEGIN SO
below : (m : ℕ) → m < 255 → setting (name_of m) ≡ false
unfolding values names name_of
below = agree (λ (m : ℕ). setting (name_of m)) (λ (m : ℕ). false) 255 refl

between : (m : ℕ) → 272 ≤ m → m < 345 → setting (name_of m) ≡ false
unfolding values names name_of
between = agree-from (λ (m : ℕ). setting (name_of m)) (λ (m : ℕ). false) 272 73 refl

-- from 255 on VMOVL
abbrev sign_at : ℕ → Sign
sign_at m = choose (ltb m 258) Signed Unsigned

abbrev width_at : ℕ → Width
width_at m = get_or (B8 ∷ B16 ∷ B32 ∷ []) (m % 3) B8

long-form : (m : ℕ) → 255 ≤ m → m < 261 → form_of (name_of m) ≡ Extend (sign_at m) (width_at m)
unfolding values numbered form_at
long-form m l h = form-at m ∙ agree-from form_at (λ (m : ℕ). Extend (sign_at m) (width_at m)) 255 6 refl m l h

-- from 261 on the modified immediates
abbrev row_at : ℕ → ℕ
row_at m = get_or (0 ∷ 1 ∷ 8 ∷ 9 ∷ 14 ∷ 15 ∷ 16 ∷ 17 ∷ 24 ∷ 25 ∷ 30 ∷ []) (m - 261) 0

immediate-home : (number : Bool) (m : ℕ) → 261 ≤ m → m < 272 → home_of (name_of m) number ≡ Modimm (row_at m)
unfolding values homes
immediate-home true m l h = home-at true m ∙ agree-from (listed_home true) (λ (m : ℕ). Modimm (row_at m)) 261 11 refl m l h
immediate-home false m l h = home-at false m ∙ agree-from (listed_home false) (λ (m : ℕ). Modimm (row_at m)) 261 11 refl m l h

-- and vmov, the last
copy-form : (m : ℕ) → 345 ≤ m → m < 346 → form_of (name_of m) ≡ Copy
unfolding values numbered form_at
copy-form m l h = form-at m ∙ agree-from form_at (λ (m : ℕ). Copy) 345 1 refl m l h

-- A MODIFIED IMMEDIATE'S NAME IS WRITTEN IN ITS FAMILY
-- a pair has the low 13 bits of its place
low_bits : (t : ℕ) → (bit 12 (t % 8192) ≡ bit 12 t) × (field 11 8 (t % 8192) ≡ field 11 8 t) × (bit 7 (t % 8192) ≡ bit 7 t)
    × (field 6 4 (t % 8192) ≡ field 6 4 t) × (field 3 0 (t % 8192) ≡ field 3 0 t)
low_bits t = (omega arith, omega arith, omega arith, omega arith, omega arith)

low-place : (t d : ℕ) (quad : Bool) → modimm_pair (t % 8192) quad d ≡ modimm_pair t quad d
unfolding modimm_pair
low-place t d quad = let e = low_bits t in rw (e.0, e.1, e.2, e.3, e.4)

family-by : (name : String) (count : ℕ) (a b : Operand) (hw1 hw2 : ℕ) → modimm_writing name count a b ≡ accepted (pair hw1 hw2) → family_of hw1 hw2 ≡ ModifiedImmediate
unfolding modimm_writing
family-by name count a b hw1 hw2 e =
    let u = chosen (eqb count 2) _ 8 (pair hw1 hw2) e in
    let w = both-fields (is_quad a) _ _ (pair hw1 hw2) u.1 in
    let g = register-back (is_quad a) a w.0 w.2 in
    let f = pair-fields (w.1 % 8192) w.0 (is_quad a) (omega arith) g.1 hw1 hw2 (low-place w.1 w.0 (is_quad a) ∙ w.4) in
    to-modimm hw1 hw2 f.bits

-- A MOVE SETS NO HALF ALONE
-- all registers 0, or all of ones
abbrev ends : Bool → ℕ
ends true = 0
ends false = 2 ^ 64 - 1

ends-small : (b : Bool) → ends b < 2 ^ 64
ends-small true = lit< tt
ends-small false = lit< tt

ends_is : (b : Bool) → eqb (ends b) 0 ≡ b
ends_is true = refl
ends_is false = refl

-- an act that leaves 0 in each of the former, and in none of the latter
abbrev Keeps : Act → Type 0
Keeps x = (a : Operand) → Fits a x → (b : Bool) (k : ℕ) → k < 32 → eqb (read_d (effect x (all_of (ends b)).file) k) 0 ≡ b

-- what holds of a register and of what is stored holds after the store
stored : (P : ℕ → Type 0) (file : File) (d v k : ℕ) → P v → P (read_d file k) → P (read_d (set file d v) k)
stored P [] d v k new old = old
stored P (x ∷ file) zero v zero new old = new
stored P (x ∷ file) zero v (suc k) new old = old
stored P (x ∷ file) (suc d) v zero new old = old
stored P (x ∷ file) (suc d) v (suc k) new old = stored P file d v k new old

module _ (b : Bool) where
  abbrev file : File
  file = (all_of (ends b)).file

  abbrev Is : ℕ → Type 0
  Is v = eqb v 0 ≡ b

  read_is : (k : ℕ) → k < 32 → Is (read_d file k)
  read_is k h = ap (λ (v : ℕ). eqb v 0) (all_read (ends b) k h) ∙ ends_is b

  good : Good file
  good = all-good (ends b) (ends-small b)

-- a copy, of either length
copy-keeps : (r : Registers) → Keeps (act (Bits Mov) r)
unfolding result_of
copy-keeps r a f b k h = go r.quad refl
  where
    go : (q : Bool) → r.quad ≡ q → Is b (read_d (effect (act (Bits Mov) (registers q r.d r.n r.m)) (file b)) k)
    go true e =
        rw (quad-words (Bits Mov) (file b) r.d r.n r.m tt (good b))
        (stored (Is b) (set (file b) r.d (read_d (file b) r.n)) (r.d + 1) (read_d (file b) (r.n + 1)) k (read_is b (r.n + 1) (f.within.first.upper e))
        (stored (Is b) (file b) r.d (read_d (file b) r.n) k (read_is b r.n f.within.first.lower) (read_is b k h)))
    go false e =
        rw (word-effect (Bits Mov) (file b) r.d r.n r.m)
        (stored (Is b) (file b) r.d (read_d (file b) r.n) k (read_is b r.n f.within.first.lower) (read_is b k h))

-- the halves that a VMOVL reads of a register
half-read : (b : Bool) (h : ℕ) → h < 2 → ends b / 2 ^ (32 * h) % 2 ^ 32 ≡ ends b % 2 ^ 32
unfolding values
half-read true = agree (λ (h : ℕ). ends true / 2 ^ (32 * h) % 2 ^ 32) (λ (h : ℕ). ends true % 2 ^ 32) 2 refl
half-read false = agree (λ (h : ℕ). ends false / 2 ^ (32 * h) % 2 ^ 32) (λ (h : ℕ). ends false % 2 ^ 32) 2 refl

-- and what it makes of one
abbrev widen : ℕ → DoubleOp
widen m = Long long.Mov (sign_at m)

half_is : (b : Bool) (d m : ℕ) → 255 ≤ m → m < 261 → Is b (half_of (widen m) (width_at m) d (ends b % 2 ^ 32) (ends b % 2 ^ 32))
unfolding values half_of double_lanes lanewise double_lane exact_double read_as modulo twos_complement
half_is true d = agree-from (λ (m : ℕ). eqb (half_of (widen m) (width_at m) d (ends true % 2 ^ 32) (ends true % 2 ^ 32)) 0) (λ (m : ℕ). true) 255 6 refl
half_is false d = agree-from (λ (m : ℕ). eqb (half_of (widen m) (width_at m) d (ends false % 2 ^ 32) (ends false % 2 ^ 32)) 0) (λ (m : ℕ). false) 255 6 refl

after_is : (b : Bool) (m : ℕ) → 255 ≤ m → m < 261 → (r : Numbers) → r.n < 32 → r.m < 32 → (h : ℕ) → h < 2 → Is b (half_after (widen m) (width_at m) r (file b) h)
after_is b m l u r hn hm h k =
    rw (all_read (ends b) r.n hn, all_read (ends b) r.m hm, half-read b h k) (half_is b (read_d (file b) (r.d + h)) m l u)

extend-keeps : (m : ℕ) → 255 ≤ m → m < 261 → (r : Numbers) → Keeps (double (widen m) (width_at m) r)
extend-keeps m l u r a f b k h =
    let after : (i : ℕ) → i < 2 → Is b (half_after (widen m) (width_at m) r (file b) i) = after_is b m l u r f.within.first.lower f.within.second.lower in
    rw (unlike-halves (widen m) (width_at m) r (file b) f.sound (good b))
    (stored (Is b) (set (file b) r.d _) (r.d + 1) _ k (after 1 (lit< tt)) (stored (Is b) (file b) r.d _ k (after 0 (lit< tt)) (read_is b k h)))

-- the meaning of a copy, and of a VMOVL
pub inside : {A : Type 0} {x y : A} → accepted x ≡ accepted y → x ≡ y
inside e = cc

module _ (i : Insn) (x : Act) (e : meaning_of i ≡ accepted x) where
  copy-meant : form_of (name_of i.mnemonic) ≡ Copy → Keeps x
  unfolding meaning_of meaning_in acting
  copy-meant f = go (gathered (vec_bits i.first) (vec_bits i.second) (vec_bits i.second)) (chosen (eqb i.count 2) _ 10 x (rw f at e)).1
    where
      go : (g : Answer Trio) → acting (Bits Mov) g ≡ accepted x → Keeps x
      go (accepted (trio l r)) q = subst Keeps (inside (chosen (same_lengths l _) _ 10 x q).1) (copy-keeps _)
      go (refused n) q = never (cc)

  extend-meant : (m : ℕ) → 255 ≤ m → m < 261 → form_of (name_of i.mnemonic) ≡ Extend (sign_at m) (width_at m) → Keeps x
  unfolding meaning_of meaning_in doubling
  extend-meant m l u f = go (gathered (vec_bits i.first) (vec_bits i.second) (vec_bits i.second)) (chosen (eqb i.count 2) _ 10 x (rw f at e)).1
    where
      go : (g : Answer Trio) → doubling (widen m) (width_at m) g ≡ accepted x → Keeps x
      go (accepted (trio k r)) q = subst Keeps (inside (chosen (same_lengths k _) _ 10 x q).1) (extend-keeps m l u r)
      go (refused n) q = never (cc)

module _ (r v hw1 hw2 : ℕ) (hr : r < 32) (i : Insn) (read : reading hw1 hw2 0 ≡ accepted i) (sets : (s : State) → Good s.file → Leaves r v hw1 hw2 s) where
  abbrev leaves : (b : Bool) → Leaves r v hw1 hw2 (all_of (ends b))
  leaves b = sets (all_of (ends b)) (good b)

  -- so that v would be 0, and would not
  no_move : ((x : Act) → meaning_of i ≡ accepted x → Keeps x) → ⊥
  unfolding step_read step_by acted
  no_move keeps = go (meaning_of i) refl
    where
      stepped : (b : Bool) (a : Answer Act) → meaning_of i ≡ a → step_by a (all_of (ends b)) ≡ accepted (leaves b).after
      stepped b a e =
          sym (ap (λ (j : Answer Insn). step_read j (all_of (ends b))) read ∙ ap (λ (a : Answer Act). step_by a (all_of (ends b))) e) ∙ (leaves b).stepped

      left : (x : Act) → meaning_of i ≡ accepted x → (b : Bool) → eqb v 0 ≡ b
      left x e b =
          let here : read_d (effect x (file b)) r ≡ v = ap (λ (s : State). read_d s.file r) (inside (stepped b (accepted x) e)) ∙ (leaves b).alone.here in
          rw here at (keeps x e i.first (meant i x e) b r hr)

      go : (a : Answer Act) → meaning_of i ≡ a → ⊥
      go (accepted x) e = wrong (sym (left x e false) ∙ left x e true)
      go (refused n) e = never (let k = stepped true (refused n) e in cc)

pub sets-immediate : (r v hw1 hw2 : ℕ) → r < 32 → hw1 < 65536 → hw2 < 65536 → (i : Insn) → reading hw1 hw2 0 ≡ accepted i
    → setting (name_of i.mnemonic) ≡ true → ((s : State) → Good s.file → Leaves r v hw1 hw2 s) → family_of hw1 hw2 ≡ ModifiedImmediate
unfolding writing
sets-immediate r v hw1 hw2 hr h1 h2 i read named sets =
    let m = i.mnemonic in
    let none = no_move r v hw1 hw2 hr i read sets in
    let wrote = read_then_written C hw1 hw2 0 i i.mark i.address h1 h2 read in
    sides 255 m (λ u. wrong (sym (below m u) ∙ named))
    (λ l. sides 261 m (λ u. absurd (none (λ x e. extend-meant i x e m l u (long-form m l u))))
    (λ l. sides 272 m (λ u. family-by (name_of m) i.count _ _ hw1 hw2 (rw (immediate-home (is_number (place_at i 2)) m l u) at wrote))
    (λ l. sides 345 m (λ u. wrong (sym (between m l u) ∙ named))
    (λ l. sides 346 m (λ u. absurd (none (λ x e. copy-meant i x e (copy-form m l u)))) (λ l. wrong (sym (ap setting (no_name m l)) ∙ named))))))
