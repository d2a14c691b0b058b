-- The cells that edition B withholds, by the bits of a pair.
-- Assumes nothing.
use mathlib.Core.Path.{◌≡◌, refl, ap, ◌∙◌}
use mathlib.Core.Bool.{Bool, true, false, not}
use Prim.Native.Nat.{ℕ, ◌+◌, ◌*◌, ◌/◌, ◌%◌, ◌<◌}
use native.Mathlib.Omega.{arith}
use lib.Arith.{digits_mod}
use lib.Dec.{eqb}
use borrow.Author.Tests.{eq-eqb, eqb-true}
use Rattle.laws.specs.Choice.{choose, both}
use Rattle.laws.proofs.Digits.{digit}
use Rattle.laws.proofs.Range.{values, agree2}
use Rattle.laws.proofs.Tests.{both_true, same_tests}
use Rattle.insn.specs.declared.Edition.TheVariants.{B}
use Rattle.editions.specs.Editions.{withholds}
use Rattle.fields.specs.Halfwords.{bit, field}
use Rattle.amounts.specs.Shifts.{is_escape}
use Rattle.tables.specs.Cells.{cell_at}
use Rattle.register_tables.specs.Same3.{same3}
use Rattle.readings.specs.Operands.{is_set}
use Rattle.decode.specs.Reading.{is_data_processing, family_of}
use Rattle.decode.specs.Editions.{is_three_same, is_withheld, is_fused}
use Rattle.decode.specs.declared.Family.TheVariants.{ThreeSame, ThreeDifferent, Shift, ModifiedImmediate, NoFamily}

-- the family by its fixed bits
family-bits : (hw1 hw2 : ℕ) → is_three_same (family_of hw1 hw2) ≡ both (is_data_processing hw1) (eqb (bit 7 hw1) 0)
unfolding family_of
family-bits hw1 hw2 =
    go (is_data_processing hw1) (eqb (bit 7 hw1) 0) (is_set (bit 4 hw2)) (is_escape (bit 7 hw2) (field 5 0 hw1)) (is_set (bit 6 hw2)) (eqb (field 5 4 hw1) 3)
  where
    go : (p a b e c s : Bool)
        → is_three_same (choose (not p) NoFamily (choose a ThreeSame (choose b (choose e ModifiedImmediate Shift) (choose c NoFamily (choose s NoFamily ThreeDifferent)))))
        ≡ both p a
    go false a b e c s = refl
    go true true b e c s = refl
    go true false true true c s = refl
    go true false true false c s = refl
    go true false false e true s = refl
    go true false false e false true = refl
    go true false false e false false = refl

-- the withheld cells stand in row U=0 opc=1100 B=1, at the sizes 0 and 2
withheld-cell : (row size : ℕ) → row < 64 → size < 4 → withholds B (cell_at same3 row size) ≡ both (eqb row 25) (eqb (size % 2) 0)
unfolding values same3
withheld-cell = agree2 (λ (r c : ℕ). withholds B (cell_at same3 r c)) (λ (r c : ℕ). both (eqb r 25) (eqb (c % 2) 0)) 64 4 refl

-- the top nine bits of hw1, cut where the family and the cell have their fields
top-bits : (h : ℕ) → field 15 7 h ≡ field 15 13 h * 64 + bit 12 h * 32 + field 11 8 h * 2 + bit 7 h
top-bits h =
    let whole : h / 128 ≡ h / 65536 * 512 + (field 15 13 h * 64 + bit 12 h * 32 + field 11 8 h * 2 + bit 7 h) =
    omega (arith, digit h 128 2, digit h 256 16, digit h 4096 2, digit h 8192 8) in
    ap (λ (x : ℕ). x % 512) whole ∙ digits_mod (h / 65536) (omega arith)

module _ (hw1 hw2 : ℕ) where
  abbrev row : ℕ
  row = bit 12 hw1 * 32 + field 11 8 hw2 * 2 + bit 4 hw2

  -- the bits that are fixed, the cell's and the family's apart
  abbrev apart : Bool
  apart = both (both (eqb row 25) (eqb (field 5 4 hw1 % 2) 0)) (both (is_data_processing hw1) (eqb (bit 7 hw1) 0))

  joined : apart ≡ true → is_fused hw1 hw2 ≡ true
  joined e =
      let t = both_true (both (eqb row 25) (eqb (field 5 4 hw1 % 2) 0)) _ e in
      let cell = both_true (eqb row 25) _ t.0 in
      let family = both_true (is_data_processing hw1) _ t.1 in
      let fixed = both_true (eqb (field 15 13 hw1) 7) _ family.0 in
      let r : row ≡ 25 = eqb-true row 25 cell.0 in
      let s : field 5 4 hw1 % 2 ≡ 0 = eqb-true (field 5 4 hw1 % 2) 0 cell.1 in
      let upper : field 15 13 hw1 ≡ 7 = eqb-true (field 15 13 hw1) 7 fixed.0 in
      let lower : field 11 8 hw1 ≡ 15 = eqb-true (field 11 8 hw1) 15 fixed.1 in
      let a : bit 7 hw1 ≡ 0 = eqb-true (bit 7 hw1) 0 family.1 in
      rw (
        eq-eqb (field 15 7 hw1) 0x1de (omega (arith, top-bits hw1)),
        eq-eqb (bit 4 hw1) 0 (omega arith),
        eq-eqb (field 11 8 hw2) 12 (omega arith),
        eq-eqb (bit 4 hw2) 1 (omega arith),
      )

  parted : is_fused hw1 hw2 ≡ true → apart ≡ true
  parted e =
      let t = both_true (eqb (field 15 7 hw1) 0x1de) _ e in
      let u = both_true (eqb (bit 4 hw1) 0) _ t.1 in
      let v = both_true (eqb (field 11 8 hw2) 12) _ u.1 in
      let top : field 15 7 hw1 ≡ 0x1de = eqb-true (field 15 7 hw1) 0x1de t.0 in
      let s : bit 4 hw1 ≡ 0 = eqb-true (bit 4 hw1) 0 u.0 in
      let o : field 11 8 hw2 ≡ 12 = eqb-true (field 11 8 hw2) 12 v.0 in
      let b : bit 4 hw2 ≡ 1 = eqb-true (bit 4 hw2) 1 v.1 in
      let whole = top-bits hw1 in
      let upper : field 15 13 hw1 ≡ 7 = omega arith in
      let unsigned : bit 12 hw1 ≡ 0 = omega arith in
      let lower : field 11 8 hw1 ≡ 15 = omega arith in
      rw (
        eq-eqb row 25 (omega arith),
        eq-eqb (field 5 4 hw1 % 2) 0 (omega arith),
        eq-eqb (field 15 13 hw1) 7 upper,
        eq-eqb (field 11 8 hw1) 15 lower,
        eq-eqb (bit 7 hw1) 0 (omega arith),
      )

-- a cell that B withholds is one of VFMA and VFMS
pub fused-cell : (hw1 hw2 : ℕ) → is_withheld B hw1 hw2 ≡ is_fused hw1 hw2
fused-cell hw1 hw2 =
    rw (withheld-cell (row hw1 hw2) (field 5 4 hw1) (omega arith) (omega arith), family-bits hw1 hw2)
    (same_tests (apart hw1 hw2) (is_fused hw1 hw2) (joined hw1 hw2) (parted hw1 hw2))
