-- A step of each kind: its pairs are written, and at most twenty.
-- Assumes nothing.
use mathlib.Core.Path.{◌≡◌, refl}
use mathlib.Core.Bool.{Bool, true, false}
use mathlib.Core.Logic.{◌≢◌}
use mathlib.Core.List.{List, [], ◌∷◌}
use Prim.Native.Nat.{ℕ, ◌+◌, ◌*◌, ◌≤◌, ◌<◌}
use native.Mathlib.Omega.{arith}
use Prim.Native.String.{String}
use lib.Dec.{eqb, lit<}
use lib.ListN.{length, length-append}
use borrow.Author.Tests.{eqb-false}
use Rattle.laws.specs.Choice.{choose}
use Rattle.insn.specs.declared.Operand.TheVariants.{Q}
use Rattle.homes.specs.declared.Home.TheVariants.{Same3}
use Rattle.steps.specs.declared.Step.{Step}
use Rattle.steps.specs.Rules.{table, uses_of, keeps, AllKeep}
use Rattle.steps.proofs.Each.{each}
use Rattle.steps.proofs.Kept.{Kept, kept_of, kind-small}
use Rattle.recipes.specs.Naming.{sized, signed}
use Rattle.recipes.specs.Pairs.{immediate, half_pairs, pair_table, pairs_by, pairs_of, two_of, three_of}
use Rattle.recipes.proofs.Carried.{left-carried, right-carried}
use Rattle.recipes.proofs.Names.{Known, add-known, sub-known, mul-known, max-known, min-known, greater-known, and-known, orr-known, eor-known, orn-known, bsl-known, left-known, right-known, left-classed, right-classed}
use Rattle.recipes.proofs.Halves.{half-written, half-few}
use Rattle.recipes.proofs.Places.{scratch, standing-written, set-standing}
use Rattle.recipes.proofs.Writes.{Is, quad_is, Written, three-writes, copy_writes, shift-writes, written-append}

-- a row as a register
pub reg : (r : ℕ) → r < 14 → Is true (Q r) (2 * r)
reg r h = quad_is r (omega arith)

pub q14 : Is true (Q 14) (2 * 14)
q14 = quad_is 14 (lit< tt)

module _ (s : Step) where
  -- three rows of a name
  rows_written : {name : String} {number cell : ℕ} → Known false name number (Same3 cell) → (x y z : ℕ) → x < 14 → y < 14 → z < 14 → Written (three_of name (Q x) (Q y) (Q z) ∷ [])
  rows_written k x y z hx hy hz = (three-writes (reg x hx) (reg y hy) (reg z hz) k, tt)

  right-written : Kept (uses_of 10) s → (b : Bool) → eqb s.amount 0 ≡ b
      → Written (choose b (two_of "vmov" (Q s.target) (Q s.a)) (three_of (sized (signed "vshr." s.sign) s.width) (Q s.target) (Q s.a) (immediate s.amount)) ∷ [])
  unfolding table
  right-written p true e = (copy_writes (reg _ p.target) (reg _ p.a), tt)
  right-written p false e =
      let n = eqb-false s.amount 0 e in
      let h = p.amount in
      let c = right-carried s.width s.amount p.width (omega arith) (omega arith) in
      (shift-writes s.amount c.0 (reg _ p.target) (reg _ p.a) (right-known s.sign s.width p.width) (right-classed s.sign s.width p.width) (λ q. (refl, refl)) c.1, tt)

  abbrev Claim : ℕ → Type 0
  Claim k = Kept (uses_of k) s → Written (pairs_by k s)

  by_kind : (k : ℕ) → k < 15 → Claim k
  unfolding pairs_by pair_table table
  by_kind = each Claim 15 (
    (λ p. let h = p.target in
        written-append (half_pairs (2 * s.target) s.low) (half_pairs (2 * s.target + 1) s.high)
        (half-written (2 * s.target) (omega arith) s.low) (half-written (2 * s.target + 1) (omega arith) s.high)),
    (
      (λ p. (copy_writes (reg _ p.target) (reg _ p.a), tt)),
      (
        (λ p. rows_written (add-known _ p.width) _ _ _ p.target p.a p.b),
        (
          (λ p. rows_written (sub-known _ p.width) _ _ _ p.target p.a p.b),
          (
            (λ p. rows_written (mul-known _ p.width) _ _ _ p.target p.a p.b),
            (
              (λ p. rows_written and-known _ _ _ p.target p.a p.b),
              (
                (λ p. rows_written orr-known _ _ _ p.target p.a p.b),
                (
                  (λ p. rows_written eor-known _ _ _ p.target p.a p.b),
                  (
                    (λ p. (standing-written scratch (set-standing 0 (lit< tt)), (three-writes (reg _ p.target) q14 (reg _ p.a) orn-known, tt))),
                    (
                      (λ p. let c = left-carried s.width s.amount p.width p.amount in
                          (shift-writes s.amount c.0 (reg _ p.target) (reg _ p.a) (left-known s.width p.width) (left-classed s.width p.width) (λ q. (refl, refl)) c.1, tt)),
                      (
                        (λ p. right-written p (eqb s.amount 0) refl),
                        (
                          (λ p. rows_written (max-known s.sign _ p.width) _ _ _ p.target p.a p.b),
                          (
                            (λ p. rows_written (min-known s.sign _ p.width) _ _ _ p.target p.a p.b),
                            (
                              (λ p. rows_written (greater-known s.sign _ p.width) _ _ _ p.target p.b p.a),
                              (
                                (λ p. (copy_writes q14 (reg _ p.c), (three-writes q14 (reg _ p.a) (reg _ p.b) bsl-known, (copy_writes (reg _ p.target) q14, tt)))),
                                tt,
                              ),
                            ),
                          ),
                        ),
                      ),
                    ),
                  ),
                ),
              ),
            ),
          ),
        ),
      ),
    ),
  )

-- every record of a step that keeps the rules, and so of a sheet
pub step-written : (s : Step) → keeps s ≡ true → Written (pairs_by s.kind s)
step-written s e = by_kind s s.kind (kind-small s e) (kept_of s e)

pub sheet-written : (steps : List Step) → AllKeep steps → Written (pairs_of steps)
unfolding pairs_of
sheet-written [] k = tt
sheet-written (s ∷ steps) k = written-append (pairs_by s.kind s) (pairs_of steps) (step-written s k.0) (sheet-written steps k.1)

-- at most twenty pairs
few : (s : Step) (k : ℕ) → k < 15 → length (pairs_by k s) ≤ 20
unfolding pairs_by pair_table
few s =
    let one : 1 ≤ 20 = omega arith in
    each (λ (k : ℕ). length (pairs_by k s) ≤ 20) 15 (
      simp length-append (omega (arith, half-few (2 * s.target) s.low, half-few (2 * s.target + 1) s.high)),
      (one, (one, (one, (one, (one, (one, (one, (omega arith, (one, (one, (one, (one, (one, (omega arith, tt)))))))))))))),
    )

pub step-few : (s : Step) → keeps s ≡ true → length (pairs_by s.kind s) ≤ 20
step-few s e = few s s.kind (kind-small s e)

-- one pair, but for kinds 0, 8 and 14
pub one-pair : (s : Step) (k : ℕ) → k < 15 → k ≢ 0 → k ≢ 8 → k ≢ 14 → length (pairs_by k s) ≡ 1
unfolding pairs_by pair_table
one-pair s =
    let P : ℕ → Type 0 = λ (k : ℕ). k ≢ 0 → k ≢ 8 → k ≢ 14 → length (pairs_by k s) ≡ 1 in
    each P 15 (
      (λ a b c. absurd (a refl)),
      (
        (λ a b c. refl),
        (
          (λ a b c. refl),
          (
            (λ a b c. refl),
            (
              (λ a b c. refl),
              (
                (λ a b c. refl),
                (
                  (λ a b c. refl),
                  (
                    (λ a b c. refl),
                    (
                      (λ a b c. absurd (b refl)),
                      (
                        (λ a b c. refl),
                        (
                          (λ a b c. refl),
                          (
                            (λ a b c. refl),
                            (
                              (λ a b c. refl),
                              (
                                (λ a b c. refl),
                                ((λ a b c. absurd (c refl)), tt),
                              ),
                            ),
                          ),
                        ),
                      ),
                    ),
                  ),
                ),
              ),
            ),
          ),
        ),
      ),
    )
