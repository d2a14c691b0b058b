-- What the operations of a step leave: its value, in its target's row_at.
-- Assumes nothing.
use mathlib.Core.Path.{◌≡◌, refl, sym, ◌∙◌, ap}
use mathlib.Core.Bool.{Bool, true, false}
use mathlib.Core.List.{List, [], ◌∷◌}
use Prim.Native.Nat.{ℕ, ◌*◌, ◌/◌, ◌^◌, ◌<◌}
use native.Mathlib.Nat.{mod-eq_of_lt, div-one}
use native.Mathlib.Omega.{arith}
use lib.Bits.{bit_and, bit_or, or_zero_l}
use lib.Dec.{eqb, lit<}
use lib.IntN.{ℤ, pos, negsuc}
use lib.ListN.{length, set}
use lib.Seq.{take-set-lt, take-set-le, get_or-take, get_or-set_same, get_or-set_other, set-set}
use lib.Signed.{shr_z}
use borrow.Author.Tests.{eqb-true}
use Rattle.laws.specs.Choice.{choose}
use Rattle.laws.proofs.Range.{values, agree}
use Rattle.arithmetic.specs.Whole.{read_as, inverted}
use Rattle.lanes.specs.Lane.{lane_of, lanes_of}
use Rattle.insn.specs.Widths.{bits_of, bits_at, width_at}
use Rattle.laws.specs.Signed.{modulo}
use Rattle.lanes.specs.declared.LaneOp.{LaneOp}
use Rattle.lanes.specs.declared.LaneOp.TheVariants.{Add, Sub, Mul, Max, Min, Cgt, Shl, Shr}
use Rattle.insn.specs.declared.Sign.{Sign}
use Rattle.lanes.proofs.Lanewise.{same, kept}
use Rattle.lanes.proofs.Promises.{read_back}
use Rattle.operations.specs.declared.BitOp.TheVariants.{And, Orr, Eor, Orn, Mov, Bsl}
use Rattle.operations.specs.declared.ConstantOp.TheVariants as constant
use Rattle.operations.specs.declared.Operation.TheVariants.{Lanes, Bits, Constant}
use Rattle.effects.specs.File.{File, Good}
use Rattle.meanings.specs.Meaning.{act, registers}
use Rattle.operations.specs.Operations.{result_of}
use Rattle.effects.specs.Effect.{effect}
use Rattle.effects.proofs.Effects.{effect-size}
use Rattle.steps.specs.declared.Step.{Step}
use Rattle.steps.specs.Meaning.{paired, rows_of, row_at, sign_of, each_lane}
use Rattle.steps.specs.Meaning as sheet
use Rattle.recipes.specs.Pairs.{half_pairs}
use Rattle.steps.specs.Rules.{table, uses_of}
use Rattle.sheet.proofs.ByKind.{act_table, acts_by}
use Rattle.sheet.proofs.Constant.{half_acts, half-does, constant-left}
use Rattle.sheet.proofs.Doing.{doing, doing-cons, doing-nil, doing-good}
use Rattle.steps.proofs.Each.{each}
use Rattle.steps.proofs.Kept.{Kept}
use Rattle.sheet.proofs.Rows.{quad, quad-row, one, paired-length, row_lt}

-- the machine's widths by code
width-bits : (c : ℕ) → c < 4 → bits_of (width_at c) ≡ bits_at c
unfolding values
width-bits = agree (λ (c : ℕ). bits_of (width_at c)) bits_at 4 refl

whole_row : (c : ℕ) → c < 4 → bits_at c * (128 / bits_at c) ≡ 128
unfolding values
whole_row = agree (λ (c : ℕ). bits_at c * (128 / bits_at c)) (λ (c : ℕ). 128) 4 refl

-- a lane operation, lane by lane, whatever the old target
lanes-value : (op : LaneOp) (c : ℕ) (f : ℕ → ℕ → ℤ) (d n m : ℕ) → c < 4 → ((x y z : ℕ) → lane_of op (bits_at c) x y z ≡ modulo (bits_at c) (f y z))
    → result_of 128 (Lanes op (width_at c)) d n m ≡ each_lane (bits_at c) f n m
unfolding result_of lanes_of each_lane
lanes-value op c f d n m h e =
    rw (width-bits c h) (same (lane_of op (bits_at c)) (λ _ x y. modulo (bits_at c) (f x y)) (bits_at c) (bits_at c) (bits_at c) (128 / bits_at c) d n m 0 n m (λ i l. e _ _ _))

-- and with its sources in the other order
swapped : (w : ℕ) (f g : ℕ → ℕ → ℤ) (a b : ℕ) → ((x y : ℕ) → f y x ≡ g x y) → each_lane w f b a ≡ each_lane w g a b
unfolding each_lane
swapped w f g a b e = same (λ _ x y. modulo w (f x y)) (λ _ x y. modulo w (g x y)) w w w (128 / w) 0 b a 0 a b (λ i l. ap (modulo w) (e _ _))

shift_none : (z : ℤ) → shr_z z 1 ≡ z
shift_none (pos n) = ap pos (div-one n)
shift_none (negsuc n) = ap negsuc (div-one n)

-- a shift by 0 leaves the row_at
unshifted : (sign : Sign) (c a : ℕ) → c < 4 → a < 2 ^ 128 → each_lane (bits_at c) (λ x y. shr_z (read_as sign (bits_at c) x) 1) a a ≡ a
unfolding each_lane
unshifted sign c a h l =
    rw (
      kept (λ _ x y. modulo (bits_at c) (shr_z (read_as sign (bits_at c) x) 1)) (bits_at c) (λ d x y p. ap (modulo (bits_at c)) (shift_none (read_as sign (bits_at c) x)) ∙ read_back sign (bits_at c) x p) (128 / bits_at c) 0 a a,
      whole_row c h,
    ) (mod-eq_of_lt l)

module _ (s : Step) (file : File) (g : Good file) where
  abbrev rows : List ℕ
  rows = rows_of file

  abbrev Claim : ℕ → Type 0
  Claim k = Kept (uses_of k) s → rows_of (doing (acts_by k s) file) ≡ set rows s.target (sheet.value_by k s rows)

  -- a lane operation on two rows
  by-lanes : (op : LaneOp) (n m : ℕ) (f : ℕ → ℕ → ℤ) → s.target < 14 → n < 14 → m < 14 → s.width < 4
      → ((x y z : ℕ) → lane_of op (bits_at s.width) x y z ≡ modulo (bits_at s.width) (f y z))
      → rows_of (doing (quad (Lanes op (width_at s.width)) s.target n m ∷ []) file) ≡ set rows s.target (each_lane (bits_at s.width) f (row_at rows n) (row_at rows m))
  by-lanes op n m f ht hn hm hw e =
      one (Lanes op (width_at s.width)) s.target n m file ht hn hm g.size
      ∙ ap (set rows s.target) (lanes-value op s.width f (row_at rows s.target) (row_at rows n) (row_at rows m) hw e)

  right : Kept (uses_of 10) s → (b : Bool) → eqb s.amount 0 ≡ b
      → rows_of (doing (choose b (quad (Bits Mov) s.target s.a s.a) (quad (Lanes (Shr (sign_of s.sign) s.amount) (width_at s.width)) s.target s.a s.a) ∷ []) file)
      ≡ set rows s.target (each_lane (bits_at s.width) (λ x y. shr_z (read_as (sign_of s.sign) (bits_at s.width) x) (2 ^ s.amount)) (row_at rows s.a) (row_at rows s.a))
  unfolding table result_of lane_of
  right p true e =
      let z : s.amount ≡ 0 = eqb-true s.amount 0 e in
      one (Bits Mov) s.target s.a s.a file p.target p.a p.a g.size
      ∙ ap (set rows s.target) (sym (rw z (unshifted (sign_of s.sign) s.width (row_at rows s.a) p.width (row_lt file s.a p.a g))))
  right p false e = by-lanes (Shr (sign_of s.sign) s.amount) s.a s.a _ p.target p.a p.a p.width (λ x y z. refl)

  abbrev r0 : List ℕ
  r0 = paired file

  -- Q14 set to 0, then VORN
  not_left : Claim 8
  unfolding table acts_by act_table sheet.value_by sheet.value_table rows_of result_of
  not_left p =
      let t = s.target in
      let ht = p.target in
      let ha = p.a in
      let op = Constant constant.Mov 0 in
      let f1 = effect (act op (registers true (2 * 14) (2 * 14) (2 * 14))) file in
      let z1 = effect-size (act op (registers true (2 * 14) (2 * 14) (2 * 14))) file ∙ g.size in
      let e1 : paired f1 ≡ set r0 14 0 = quad-row op 14 14 14 file (lit< tt) (lit< tt) (lit< tt) g.size in
      let e2 = quad-row (Bits Orn) t 14 s.a f1 (omega arith) (lit< tt) (omega arith) z1 in
      let l : length r0 ≡ 16 = paired-length 16 file g.size in
      rw (
        doing-cons,
        doing-cons,
        doing-nil,
        e2,
        e1,
        get_or-set_same r0 14 0 0 (omega arith),
        get_or-set_other r0 14 s.a 0 0 (λ z. let b : ⊥ = omega arith in b),
        or_zero_l (inverted 128 (row_at r0 s.a)),
        take-set-lt 14 (set r0 14 0) t _ ht,
        take-set-le 14 r0 14 0 (omega arith),
        get_or-take 14 r0 s.a 0 ha,
      )

  -- c goes to Q14, picks there, and the choice goes to the target
  pick-left : Claim 14
  unfolding table acts_by act_table sheet.value_by sheet.value_table rows_of result_of
  pick-left p =
      let t = s.target in
      let ht = p.target in
      let ha = p.a in
      let hb = p.b in
      let hc = p.c in
      let picker = row_at r0 s.c in
      let choice = bit_or (bit_and (row_at r0 s.a) picker) (bit_and (row_at r0 s.b) (inverted 128 picker)) in
      let f1 = effect (act (Bits Mov) (registers true (2 * 14) (2 * s.c) (2 * s.c))) file in
      let f2 = effect (act (Bits Bsl) (registers true (2 * 14) (2 * s.a) (2 * s.b))) f1 in
      let z1 = effect-size (act (Bits Mov) (registers true (2 * 14) (2 * s.c) (2 * s.c))) file ∙ g.size in
      let z2 = effect-size (act (Bits Bsl) (registers true (2 * 14) (2 * s.a) (2 * s.b))) f1 ∙ z1 in
      let l : length r0 ≡ 16 = paired-length 16 file g.size in
      let e1 : paired f1 ≡ set r0 14 picker = quad-row (Bits Mov) 14 s.c s.c file (lit< tt) (omega arith) (omega arith) g.size in
      let e2 : paired f2 ≡ set r0 14 choice =
      quad-row (Bits Bsl) 14 s.a s.b f1 (lit< tt) (omega arith) (omega arith) z1
      ∙ rw (
        e1,
        get_or-set_same r0 14 picker 0 (omega arith),
        get_or-set_other r0 14 s.a picker 0 (λ z. let b : ⊥ = omega arith in b),
        get_or-set_other r0 14 s.b picker 0 (λ z. let b : ⊥ = omega arith in b),
        set-set,
      ) in
      let e3 = quad-row (Bits Mov) t 14 14 f2 (omega arith) (lit< tt) (lit< tt) z2 in
      rw (
        doing-cons,
        doing-cons,
        doing-cons,
        doing-nil,
        e3,
        e2,
        get_or-set_same r0 14 choice 0 (omega arith),
        take-set-lt 14 (set r0 14 choice) t choice ht,
        take-set-le 14 r0 14 choice (omega arith),
        get_or-take 14 r0 s.a 0 ha,
        get_or-take 14 r0 s.b 0 hb,
        get_or-take 14 r0 s.c 0 hc,
      )

  pub left : (k : ℕ) → k < 15 → Claim k
  unfolding table acts_by act_table sheet.value_by sheet.value_table result_of lane_of
  left = each Claim 15 (
    (λ p. let h = p.target in
        constant-left file s.target s.low s.high g.size
        (doing-good (half_pairs (2 * s.target) s.low) (half_acts (2 * s.target) s.low) file (half-does (2 * s.target) s.low (omega arith)) g).size
        p.target p.low p.high),
    (
      (λ p. one (Bits Mov) s.target s.a s.a file p.target p.a p.a g.size),
      (
        (λ p. by-lanes Add s.a s.b _ p.target p.a p.b p.width (λ x y z. refl)),
        (
          (λ p. by-lanes Sub s.a s.b _ p.target p.a p.b p.width (λ x y z. refl)),
          (
            (λ p. by-lanes Mul s.a s.b _ p.target p.a p.b (let h = p.width in omega arith) (λ x y z. refl)),
            (
              (λ p. one (Bits And) s.target s.a s.b file p.target p.a p.b g.size),
              (
                (λ p. one (Bits Orr) s.target s.a s.b file p.target p.a p.b g.size),
                (
                  (λ p. one (Bits Eor) s.target s.a s.b file p.target p.a p.b g.size),
                  (
                    not_left,
                    (
                      (λ p. by-lanes (Shl s.amount) s.a s.a _ p.target p.a p.a p.width (λ x y z. refl)),
                      (
                        (λ p. right p (eqb s.amount 0) refl),
                        (
                          (λ p. by-lanes (Max (sign_of s.sign)) s.a s.b _ p.target p.a p.b (let h = p.width in omega arith) (λ x y z. refl)),
                          (
                            (λ p. by-lanes (Min (sign_of s.sign)) s.a s.b _ p.target p.a p.b (let h = p.width in omega arith) (λ x y z. refl)),
                            (
                              (λ p. by-lanes (Cgt (sign_of s.sign)) s.b s.a _ p.target p.b p.a (let h = p.width in omega arith) (λ x y z. refl)
                                  ∙ ap (set rows s.target) (swapped (bits_at s.width) _ _ (row_at rows s.a) (row_at rows s.b) (λ x y. refl))),
                              (
                                pick-left,
                                tt,
                              ),
                            ),
                          ),
                        ),
                      ),
                    ),
                  ),
                ),
              ),
            ),
          ),
        ),
      ),
    ),
  )
