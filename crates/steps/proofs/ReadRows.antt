-- The test of the rows that a step reads, by the code's columns.
-- Assumes nothing.
use mathlib.Core.Path.{◌≡◌, refl, sym, ap}
use mathlib.Core.Bool.{Bool, ◌&&◌, ◌||◌, and-true}
use Prim.Native.Nat.{ℕ, ◌<◌}
use lib.Dec.{ltb}
use Rattle.steps.specs.declared.Step.{Step}
use Rattle.steps.specs.Faults.{every}
use Rattle.steps.specs.Reads.{reads_by}
use Rattle.steps.specs.Own.{limit}
use Rattle.steps.specs.Rules.{table, uses_of}
use Rattle.steps.specs.Sets.{in_set}
use Rattle.steps.proofs.Each.{each}

module _ (s : Step) (set : ℕ) where
  abbrev Tested : ℕ → Type 0
  Tested k =
      (ltb (limit (uses_of k).a) 2 || in_set set s.a) && ((ltb (limit (uses_of k).b) 2 || in_set set s.b) && (ltb (limit (uses_of k).c) 2 || in_set set s.c))
      ≡ every (in_set set) (reads_by k s)

  three : Tested 14
  unfolding reads_by table
  three = ap (λ (x : Bool). in_set set s.a && (in_set set s.b && x)) (sym (and-true (in_set set s.c)))

  -- a byte with one value is not used
  reads-tested : (k : ℕ) → k < 15 → Tested k
  unfolding reads_by table
  reads-tested = each Tested 15 (
    refl,
    (
      refl,
      (
        refl,
        (
          refl,
          (
            refl,
            (
              refl,
              (
                refl,
                (refl, (refl, (refl, (refl, (refl, (refl, (refl, (three, tt)))))))),
              ),
            ),
          ),
        ),
      ),
    ),
  )

-- what is told of each row
pub reads-told : (s : Step) (set k : ℕ) (a b c : Bool) → k < 15 → a ≡ in_set set s.a → b ≡ in_set set s.b → c ≡ in_set set s.c
    → (ltb (limit (uses_of k).a) 2 || a) && ((ltb (limit (uses_of k).b) 2 || b) && (ltb (limit (uses_of k).c) 2 || c)) ≡ every (in_set set) (reads_by k s)
reads-told s set k a b c h p q r = rw (p, q, r) (reads-tested s set k h)
