-- The cells that the code's table lists, and the stretches of mnemonics that each table has.
-- Assumes nothing.
use mathlib.Core.Path.{◌≡◌, refl, sym, ap, ◌∙◌}
use mathlib.Core.Bool.{Bool, true, false}
use Prim.Native.Nat.{ℕ, ◌+◌, ◌<◌, ◌≤◌}
use lib.ListN.{get_or}
use native.Mathlib.Omega.{arith}
use borrow.Author.Tests.{lt-ltb, le-ltb}
use Rattle.laws.specs.Search.{none}
use Rattle.laws.proofs.Range.{values, agree-from}
use Rattle.tables.proofs.Listed.{listed}
use Rattle.homes.specs.declared.Home.{Home}
use Rattle.homes.specs.declared.Home.TheVariants.{Same3, Shift, Vmovl, Modimm, Diff, Vmov, Nowhere}
use Rattle.homes.proofs.Homes.{homes, vqshl_at, listed_home, home_at, home-at, plain}

abbrev cell : Home → ℕ
cell (Same3 k) = k
cell (Shift k) = k
cell (Vmovl k) = k
cell (Modimm k) = k
cell (Diff k) = k
cell Vmov = 0
cell Nowhere = 0

abbrev pub cell_of : ℕ → ℕ
cell_of m = cell (get_or homes m Nowhere)

-- what stands at a mnemonic's place of the code's table
abbrev pub tabled : ℕ → ℕ
tabled m = get_or (values cell_of 0 346) m 0

-- n mnemonics from lo on are at home in one table
module _ (H : ℕ → Home) (lo n : ℕ) (below : lo + n ≤ 346) (same : values (λ (m : ℕ). H (cell_of m)) lo n ≡ values (listed_home false) lo n) where
  in_table : (m : ℕ) → lo ≤ m → m < lo + n → H (tabled m) ≡ home_at false m
  in_table m a b =
      ap H (listed cell_of 346 m 0 (omega arith))
      ∙ agree-from (λ (m : ℕ). H (cell_of m)) (listed_home false) lo n same m a b
      ∙ sym (home-at false m)

pub same3-at : (m : ℕ) → m < 173 → Same3 (tabled m) ≡ home_at false m
unfolding values homes
same3-at m h = in_table Same3 0 173 (omega arith) refl m (omega arith) h

pub shift-at : (m : ℕ) → 173 ≤ m → m < 255 → Shift (tabled m) ≡ home_at false m
unfolding values homes
shift-at = in_table Shift 173 82 (omega arith) refl

pub vmovl-at : (m : ℕ) → 255 ≤ m → m < 261 → Vmovl (tabled m) ≡ home_at false m
unfolding values homes
vmovl-at = in_table Vmovl 255 6 (omega arith) refl

pub modimm-at : (m : ℕ) → 261 ≤ m → m < 272 → Modimm (tabled m) ≡ home_at false m
unfolding values homes
modimm-at = in_table Modimm 261 11 (omega arith) refl

pub diff-at : (m : ℕ) → 272 ≤ m → m < 345 → Diff (tabled m) ≡ home_at false m
unfolding values homes
diff-at = in_table Diff 272 73 (omega arith) refl

pub vmov-at : (m : ℕ) → 345 ≤ m → m < 346 → Vmov ≡ home_at false m
unfolding values homes
vmov-at m a b = agree-from (λ (m : ℕ). Vmov) (listed_home false) 345 1 refl m a b ∙ sym (home-at false m)

-- a number as the third operand changes VQSHL's home alone
module _ (number : Bool) (m : ℕ) where
  kept : vqshl_at m ≡ none → home_at false m ≡ home_at number m
  kept e = go number
    where
      go : (t : Bool) → home_at false m ≡ home_at t m
      go true = plain m e
      go false = refl

  pub same-below : m < 31 → home_at false m ≡ home_at number m
  same-below h = kept (rw (lt-ltb m 31 h))

  pub same-between : 35 ≤ m → m < 121 → home_at false m ≡ home_at number m
  same-between a b = kept (rw (le-ltb m 31 (omega arith), le-ltb m 35 a, lt-ltb m 121 b))

  pub same_above : 125 ≤ m → home_at false m ≡ home_at number m
  same_above a = kept (rw (le-ltb m 31 (omega arith), le-ltb m 35 (omega arith), le-ltb m 121 (omega arith), le-ltb m 125 a))

pub vqshl-signed : (m : ℕ) → 31 ≤ m → m < 35 → Shift (m + 25) ≡ home_at true m
unfolding values homes
vqshl-signed m a b = agree-from (λ (m : ℕ). Shift (m + 25)) (listed_home true) 31 4 refl m a b ∙ sym (home-at true m)

pub vqshl-unsigned : (m : ℕ) → 121 ≤ m → m < 125 → Shift (m + 63) ≡ home_at true m
unfolding values homes
vqshl-unsigned m a b = agree-from (λ (m : ℕ). Shift (m + 63)) (listed_home true) 121 4 refl m a b ∙ sym (home-at true m)
