-- A mnemonic's home has its name, and a cell's name has that cell for its home: antt computes both, at each mnemonic and at each cell.
-- Assumes nothing.
use mathlib.Core.Path.{◌≡◌, refl, ap, ◌∙◌}
use mathlib.Core.Bool.{Bool, true, false}
use mathlib.Core.List.{[], ◌∷◌}
use Prim.Native.Nat.{ℕ, ◌+◌, ◌*◌, ◌/◌, ◌%◌, ◌<◌}
use Prim.Native.String.{String}
use lib.Dec.{ltb}
use lib.ListN.{get_or}
use lib.Text.{eqt}
use borrow.Author.Tests.{ltb-true, ltb-false}
use Rattle.laws.specs.Choice.{choose, both}
use Rattle.laws.proofs.Range.{values, agree}
use Rattle.laws.proofs.Never.{never}
use Rattle.names.specs.Names.{names, name_of, number_of}
use Rattle.names.proofs.Known.{named}
use Rattle.register_tables.specs.Same3.{same3}
use Rattle.immediate_tables.specs.Shift.{shift_rows, shift_cells, shift_classes, vmovl}
use Rattle.immediate_tables.specs.Modimm.{modimm}
use Rattle.register_tables.specs.Diff.{diff_rows, diff_cells}
use Rattle.tables.specs.declared.ShiftClass.{ShiftClass}
use Rattle.tables.specs.declared.ShiftClass.TheVariants.{Right, Left, Narrow, Long, Convert}
use Rattle.tables.proofs.Cells.{cell4, cell16}
use Rattle.homes.specs.declared.Home.{Home}
use Rattle.homes.specs.declared.Home.TheVariants.{Same3, Shift, Vmovl, Modimm, Diff, Vmov, Nowhere}
use Rattle.homes.proofs.Homes.{homes, listed_home, home_at, home-at, no-home}
use Rattle.laws.proofs.Tests.{both_true, same_text}

-- a home is within its table, and its cell has the name
abbrev right : Home → String → Bool
right (Same3 k) s = both (ltb k 256) (eqt (cell4 same3 k) s)
right (Shift k) s = both (ltb k 256) (eqt (cell4 shift_cells k) s)
right (Vmovl k) s = both (ltb k 8) (eqt (cell4 vmovl k) s)
right (Modimm k) s = both (ltb k 32) (eqt (cell16 modimm k) s)
right (Diff k) s = both (ltb k 128) (eqt (cell4 diff_cells k) s)
right Vmov s = eqt s "vmov"
right Nowhere s = eqt s ""

right-named : (number : Bool) (m : ℕ) → m < 346 → right (listed_home number m) (name_of m) ≡ true
unfolding values same3 shift_rows shift_cells vmovl modimm diff_rows diff_cells names name_of homes
right-named true = agree (λ (m : ℕ). right (listed_home true m) (name_of m)) (λ (m : ℕ). true) 346 refl
right-named false = agree (λ (m : ℕ). right (listed_home false m) (name_of m)) (λ (m : ℕ). true) 346 refl

-- a mnemonic at home in a table: its number, its place and its name
pub record Stands (m k limit : ℕ) (cell : ℕ → String) : Type 0 where
  pub known : m < 346
  pub within : k < limit
  pub spelled : cell k ≡ name_of m

-- so the cell is not blank
pub filled : {m k limit : ℕ} {cell : ℕ → String} → Stands m k limit cell → eqt (cell k) "" ≡ false
filled {m} s = ap (λ (t : String). eqt t "") s.spelled ∙ named m s.known

module _ (number : Bool) (m : ℕ) where
  -- a mnemonic with a home has a number below 346, and the home is right
  at_home : (h : Home) → home_at number m ≡ h → (Nowhere ≡ h → ◌≡◌ {A = ℕ} 0 1) → (m < 346) × (right h (name_of m) ≡ true)
  at_home h e n = go (ltb m 346) refl
    where
      go : (b : Bool) → ltb m 346 ≡ b → (m < 346) × (right h (name_of m) ≡ true)
      go true t = let l = ltb-true m 346 t in (l, rw (← home-at number m, e) at (right-named number m l))
      go false t = never (n (no-home number m (ltb-false m 346 t) ∙ e))

  stands : (k limit : ℕ) (cell : ℕ → String) → (m < 346) × (both (ltb k limit) (eqt (cell k) (name_of m)) ≡ true) → Stands m k limit cell
  stands k limit cell h =
      let w = both_true (ltb k limit) _ h.1 in
      record { known = h.0; within = ltb-true k limit w.0; spelled = same_text _ _ w.1 }

  pub same3-stands : (k : ℕ) → home_at number m ≡ Same3 k → Stands m k 256 (cell4 same3)
  same3-stands k e = stands k 256 (cell4 same3) (at_home (Same3 k) e (λ n. cc))

  pub shift-stands : (k : ℕ) → home_at number m ≡ Shift k → Stands m k 256 (cell4 shift_cells)
  shift-stands k e = stands k 256 (cell4 shift_cells) (at_home (Shift k) e (λ n. cc))

  pub vmovl-stands : (k : ℕ) → home_at number m ≡ Vmovl k → Stands m k 8 (cell4 vmovl)
  vmovl-stands k e = stands k 8 (cell4 vmovl) (at_home (Vmovl k) e (λ n. cc))

  pub modimm-stands : (k : ℕ) → home_at number m ≡ Modimm k → Stands m k 32 (cell16 modimm)
  modimm-stands k e = stands k 32 (cell16 modimm) (at_home (Modimm k) e (λ n. cc))

  pub diff-stands : (k : ℕ) → home_at number m ≡ Diff k → Stands m k 128 (cell4 diff_cells)
  diff-stands k e = stands k 128 (cell4 diff_cells) (at_home (Diff k) e (λ n. cc))

  pub vmov-stands : home_at number m ≡ Vmov → (m < 346) × (name_of m ≡ "vmov")
  vmov-stands e = let h = at_home Vmov e (λ n. cc) in (h.0, same_text _ _ h.1)

-- the home of a cell's name, where the cell is not blank
module _ (cells : ℕ → String) (place : ℕ → Home) (number : Bool) (n : ℕ)
    (same : values (λ (k : ℕ). choose (eqt (cells k) "") (place k) (listed_home number (number_of (cells k)))) 0 n ≡ values place 0 n) where
  at-cell : (k : ℕ) → k < n → eqt (cells k) "" ≡ false → home_at number (number_of (cells k)) ≡ place k
  at-cell k h e =
      home-at number _
      ∙ rw e at (agree (λ (k : ℕ). choose (eqt (cells k) "") (place k) (listed_home number (number_of (cells k)))) place n same k h)

pub same3-home : (k : ℕ) → k < 256 → eqt (cell4 same3 k) "" ≡ false → home_at false (number_of (cell4 same3 k)) ≡ Same3 k
unfolding values same3 names number_of homes
same3-home = at-cell (cell4 same3) Same3 false 256 refl

pub diff-home : (k : ℕ) → k < 128 → eqt (cell4 diff_cells k) "" ≡ false → home_at false (number_of (cell4 diff_cells k)) ≡ Diff k
unfolding values diff_rows diff_cells names number_of homes
diff-home = at-cell (cell4 diff_cells) Diff false 128 refl

pub vmovl-home : (k : ℕ) → k < 8 → eqt (cell4 vmovl k) "" ≡ false → home_at false (number_of (cell4 vmovl k)) ≡ Vmovl k
unfolding values vmovl names number_of homes
vmovl-home = at-cell (cell4 vmovl) Vmovl false 8 refl

-- the first row of A7-14 with the name of row k: op:cmode
abbrev pub first_row : ℕ → ℕ
first_row k = get_or (0 ∷ 1 ∷ 0 ∷ 1 ∷ 0 ∷ 1 ∷ 0 ∷ 1 ∷ 8 ∷ 9 ∷ 8 ∷ 9 ∷ 0 ∷ 0 ∷ 14 ∷ 15 ∷ []) (k % 16) 0 + k / 16 * 16

pub modimm-home : (number : Bool) (k : ℕ) → k < 32 → eqt (cell16 modimm k) "" ≡ false → home_at number (number_of (cell16 modimm k)) ≡ Modimm (first_row k)
unfolding values modimm names number_of homes
modimm-home true = at-cell (cell16 modimm) (λ (k : ℕ). Modimm (first_row k)) true 32 refl
modimm-home false = at-cell (cell16 modimm) (λ (k : ℕ). Modimm (first_row k)) false 32 refl

pub vmov-home : home_at false (number_of "vmov") ≡ Vmov
unfolding names number_of homes
vmov-home = home-at false _

-- a row of A7-12 with a Q stands there twice: the first time B, the third bit, is 0
abbrev pub first_cell : ShiftClass → ℕ → ℕ
first_cell Right k = k / 8 * 8 + k % 4
first_cell Left k = k / 8 * 8 + k % 4
first_cell Convert k = k / 8 * 8 + k % 4
first_cell Narrow k = k
first_cell Long k = k

abbrev pub class_at : ℕ → ShiftClass
class_at k = get_or shift_classes (k / 4) Right

pub shift-home : (k : ℕ) → k < 256 → eqt (cell4 shift_cells k) "" ≡ false → home_at true (number_of (cell4 shift_cells k)) ≡ Shift (first_cell (class_at k) k)
unfolding values shift_rows shift_cells shift_classes names number_of homes
shift-home = at-cell (cell4 shift_cells) (λ (k : ℕ). Shift (first_cell (class_at k) k)) true 256 refl

-- the first cell of a name is in a row of the same class
pub first-class : (k : ℕ) → k < 256 → eqt (cell4 shift_cells k) "" ≡ false → class_at (first_cell (class_at k) k) ≡ class_at k
unfolding values shift_rows shift_cells shift_classes
first-class k h e =
    rw e at (agree (λ (k : ℕ). choose (eqt (cell4 shift_cells k) "") (class_at k) (class_at (first_cell (class_at k) k))) class_at 256 refl k h)
