-- A step of each kind: its pairs do these operations.
-- Assumes nothing.
use mathlib.Core.Path.{◌≡◌, refl}
use mathlib.Core.Bool.{Bool, true, false}
use mathlib.Core.List.{List, [], ◌∷◌, ◌++◌}
use Prim.Native.Nat.{ℕ, ◌+◌, ◌*◌, ◌<◌}
use native.Mathlib.Omega.{arith}
use Prim.Native.String.{String}
use lib.Dec.{eqb, lit<}
use lib.ListN.{get_or}
use borrow.Author.Tests.{eqb-false}
use Rattle.laws.specs.Choice.{choose}
use Rattle.insn.specs.declared.Operand.{Operand}
use Rattle.insn.specs.declared.Operand.TheVariants.{Q}
use Rattle.homes.specs.declared.Home.TheVariants.{Same3}
use Rattle.lanes.specs.declared.LaneOp.TheVariants.{Add, Sub, Mul, Max, Min, Cgt, Shl, Shr}
use Rattle.operations.specs.declared.BitOp.TheVariants.{And, Orr, Eor, Orn, Mov, Bsl}
use Rattle.operations.specs.declared.ConstantOp.TheVariants as constant
use Rattle.operations.specs.declared.Operation.{Operation}
use Rattle.operations.specs.declared.Operation.TheVariants.{Lanes, Bits, Constant}
use Rattle.forms.specs.declared.Form.{Form}
use Rattle.insn.specs.Widths.{width_at}
use Rattle.meanings.specs.Meaning.{Act, on, count_of, meaning_in}
use Rattle.operations.specs.Operations.{Sized}
use Rattle.marks.proofs.Quiet.{Quiet}
use Rattle.steps.specs.declared.Step.{Step}
use Rattle.steps.specs.Meaning.{sign_of}
use Rattle.recipes.specs.Naming.{sized, signed}
use Rattle.recipes.specs.Pairs.{immediate, half_pairs, pair_table, pairs_by, two_of, three_of}
use Rattle.steps.specs.Rules.{table, uses_of}
use Rattle.recipes.proofs.Names.{Known, add-known, sub-known, mul-known, max-known, min-known, greater-known, and-known, orr-known, eor-known, orn-known, bsl-known, left-known, right-known, left-classed, right-classed}
use Rattle.recipes.proofs.Places.{scratch}
use Rattle.insn.proofs.Sizes.{at-most-64}
use Rattle.recipes.proofs.Carried.{left-carried, right-carried}
use Rattle.sheet.proofs.Constant.{half_acts, half-does, set-executes}
use Rattle.sheet.proofs.Doing.{Does, does-append}
use Rattle.steps.proofs.Each.{each}
use Rattle.sheet.proofs.Executes.{Stands, quad-stands, Means, three-executes, copy-executes, shift-executes}
use Rattle.steps.proofs.Kept.{Kept}
use Rattle.sheet.proofs.Names.{add-means, sub-means, mul-means, max-means, min-means, greater-means, and-means, orr-means, eor-means, orn-means, bsl-means, left-means, right-means, copy-means}
use Rattle.sheet.proofs.Rows.{quad}

-- the operations of a step of each kind
unfoldable pub act_table : Step → ℕ → ℕ → ℕ → ℕ → List (List Act)
act_table s t a b c =
    let w = width_at s.width in
    let sign = sign_of s.sign in
    (half_acts (2 * t) s.low ++ half_acts (2 * t + 1) s.high)  -- 0
    ∷ (quad (Bits Mov) t a a ∷ [])  -- 1
    ∷ (quad (Lanes Add w) t a b ∷ [])  -- 2
    ∷ (quad (Lanes Sub w) t a b ∷ [])  -- 3
    ∷ (quad (Lanes Mul w) t a b ∷ [])  -- 4
    ∷ (quad (Bits And) t a b ∷ [])  -- 5
    ∷ (quad (Bits Orr) t a b ∷ [])  -- 6
    ∷ (quad (Bits Eor) t a b ∷ [])  -- 7
    ∷ (quad (Constant constant.Mov 0) 14 14 14 ∷ quad (Bits Orn) t 14 a ∷ [])  -- 8
    ∷ (quad (Lanes (Shl s.amount) w) t a a ∷ [])  -- 9
    ∷ (choose (eqb s.amount 0) (quad (Bits Mov) t a a) (quad (Lanes (Shr sign s.amount) w) t a a) ∷ [])  -- 10
    ∷ (quad (Lanes (Max sign) w) t a b ∷ [])  -- 11
    ∷ (quad (Lanes (Min sign) w) t a b ∷ [])  -- 12
    ∷ (quad (Lanes (Cgt sign) w) t b a ∷ [])  -- 13
    ∷ (quad (Bits Mov) 14 c c ∷ quad (Bits Bsl) 14 a b ∷ quad (Bits Mov) t 14 14 ∷ [])  -- 14
    ∷ []

unfoldable pub acts_by : ℕ → Step → List Act
acts_by kind s = get_or (act_table s s.target s.a s.b s.c) kind []

-- a rowAt as a register
reg : (r : ℕ) → r < 14 → Stands true (Q r) (2 * r)
reg r h = quad-stands r (omega arith)

q14 : Stands true (Q 14) (2 * 14)
q14 = quad-stands 14 (lit< tt)

module _ (s : Step) where
  -- three rows of a name with no constant
  plain : {name : String} {number cell : ℕ} {f : Form} (op : Operation) (x y z : ℕ) → Sized op → Quiet op → Known false name number (Same3 cell) → Means name f → count_of f ≡ 3
      → ((a b c : Operand) → meaning_in f a b c ≡ on op a b c) → x < 14 → y < 14 → z < 14 → Does (three_of name (Q x) (Q y) (Q z) ∷ []) (quad op x y z ∷ [])
  plain op x y z sized quiet known means counted meant hx hy hz =
      (three-executes (reg x hx) (reg y hy) (reg z hz) op quiet known means counted (meant (Q x) (Q y) (Q z)), (sized, tt))

  shifted : Kept (uses_of 10) s → (b : Bool) → eqb s.amount 0 ≡ b
      → Does (choose b (two_of "vmov" (Q s.target) (Q s.a)) (three_of (sized (signed "vshr." s.sign) s.width) (Q s.target) (Q s.a) (immediate s.amount)) ∷ [])
      (choose b (quad (Bits Mov) s.target s.a s.a) (quad (Lanes (Shr (sign_of s.sign) s.amount) (width_at s.width)) s.target s.a s.a) ∷ [])
  unfolding table
  shifted p true e = (copy-executes copy-means (reg _ p.target) (reg _ p.a), (tt, tt))
  shifted p false e =
      let n = eqb-false s.amount 0 e in
      let h = p.amount in
      let small = at-most-64 {s = s.width} (omega (arith, p.width)) in
      let c = right-carried s.width s.amount p.width (omega arith) (omega arith) in
      (shift-executes (Lanes (Shr (sign_of s.sign) s.amount) (width_at s.width)) s.amount c.0 (λ z n m. refl) (reg _ p.target) (reg _ p.a) (right-known s.sign s.width p.width) (right-classed s.sign s.width p.width) (right-means s.sign s.width p.width) (λ q. (refl, refl)) (omega arith) c.1 refl, (tt, tt))

  -- the pairs of a step do its operations
  abbrev Written : ℕ → Type 0
  Written k = Kept (uses_of k) s → Does (pairs_by k s) (acts_by k s)

  pub written : (k : ℕ) → k < 15 → Written k
  unfolding pairs_by pair_table acts_by act_table table meaning_in
  written = each Written 15 (
    (λ p. let h = p.target in
        does-append (half_pairs (2 * s.target) s.low) _ (half_acts (2 * s.target) s.low) _
        (half-does (2 * s.target) s.low (omega arith)) (half-does (2 * s.target + 1) s.high (omega arith))),
    (
      (λ p. (copy-executes copy-means (reg _ p.target) (reg _ p.a), (tt, tt))),
      (
        (λ p. plain (Lanes Add _) _ _ _ tt (λ z n m. refl) (add-known _ p.width) (add-means _ p.width) refl (λ a b c. refl) p.target p.a p.b),
        (
          (λ p. plain (Lanes Sub _) _ _ _ tt (λ z n m. refl) (sub-known _ p.width) (sub-means _ p.width) refl (λ a b c. refl) p.target p.a p.b),
          (
            (λ p. plain (Lanes Mul _) _ _ _ tt (λ z n m. refl) (mul-known _ p.width) (mul-means _ p.width) refl (λ a b c. refl) p.target p.a p.b),
            (
              (λ p. plain (Bits And) _ _ _ tt (λ z n m. refl) and-known and-means refl (λ a b c. refl) p.target p.a p.b),
              (
                (λ p. plain (Bits Orr) _ _ _ tt (λ z n m. refl) orr-known orr-means refl (λ a b c. refl) p.target p.a p.b),
                (
                  (λ p. plain (Bits Eor) _ _ _ tt (λ z n m. refl) eor-known eor-means refl (λ a b c. refl) p.target p.a p.b),
                  (
                    (λ p. (set-executes 0 (lit< tt) scratch, (lit< tt, (three-executes (reg _ p.target) q14 (reg _ p.a) (Bits Orn) (λ z n m. refl) orn-known orn-means refl refl, (tt, tt))))),
                    (
                      (λ p. let h = p.amount in
                          let small = at-most-64 {s = s.width} (omega (arith, p.width)) in
                          let c = left-carried s.width s.amount p.width p.amount in
                          (shift-executes (Lanes (Shl s.amount) (width_at s.width)) s.amount c.0 (λ z n m. refl) (reg _ p.target) (reg _ p.a) (left-known s.width p.width) (left-classed s.width p.width) (left-means s.width p.width) (λ q. (refl, refl)) (omega arith) c.1 refl, (tt, tt))),
                      (
                        (λ p. shifted p (eqb s.amount 0) refl),
                        (
                          (λ p. plain (Lanes (Max _) _) _ _ _ tt (λ z n m. refl) (max-known s.sign _ p.width) (max-means s.sign _ p.width) refl (λ a b c. refl) p.target p.a p.b),
                          (
                            (λ p. plain (Lanes (Min _) _) _ _ _ tt (λ z n m. refl) (min-known s.sign _ p.width) (min-means s.sign _ p.width) refl (λ a b c. refl) p.target p.a p.b),
                            (
                              (λ p. plain (Lanes (Cgt _) _) _ _ _ tt (λ z n m. refl) (greater-known s.sign _ p.width) (greater-means s.sign _ p.width) refl (λ a b c. refl) p.target p.b p.a),
                              (
                                (λ p. (copy-executes copy-means q14 (reg _ p.c), (tt, (three-executes q14 (reg _ p.a) (reg _ p.b) (Bits Bsl) (λ z n m. refl) bsl-known bsl-means refl refl, (tt, (copy-executes copy-means (reg _ p.target) q14, (tt, tt))))))),
                                tt,
                              ),
                            ),
                          ),
                        ),
                      ),
                    ),
                  ),
                ),
              ),
            ),
          ),
        ),
      ),
    ),
  )
