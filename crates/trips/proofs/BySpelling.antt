-- Writing goes by a record's spelling alone, and is that of what the spelling is read as.
-- Assumes nothing.
use mathlib.Core.Path.{◌≡◌, refl, sym, ap, ◌∙◌}
use mathlib.Core.Bool.{Bool, true, false, not}
use Prim.Native.Nat.{ℕ, ◌+◌, ◌-◌, ◌*◌, ◌/◌, ◌%◌, ◌<◌}
use Prim.Native.String.{String}
use lib.Dec.{eqb, ltb}
use lib.IntN.{pos, negsuc}
use lib.Text.{eqt}
use borrow.Author.Tests.{eqb-true}
use Rattle.laws.specs.Answer.{Answer, refused}
use Rattle.laws.specs.Choice.{choose}
use Rattle.laws.proofs.Never.{wrong}
use Rattle.laws.proofs.Range.{values, agree}
use Rattle.laws.proofs.Tests.{both_true, not-holds, same_text, sides}
use Rattle.insn.specs.declared.Edition.{Edition}
use Rattle.insn.specs.declared.Edition.TheVariants.{B, C}
use Rattle.insn.specs.declared.Insn.{Insn}
use Rattle.insn.specs.declared.Mark.{Mark}
use Rattle.insn.specs.declared.Operand.{Operand}
use Rattle.insn.specs.declared.Operand.TheVariants.{D, Q, S, Imm, Float, Other, Absent}
use Rattle.insn.specs.Record.{place_at}
use Rattle.names.specs.Names.{names, name_of, number_of}
use Rattle.names.proofs.Spellings.{no_name}
use Rattle.editions.specs.Editions.{withholds}
use Rattle.homes.specs.Home.{home_of}
use Rattle.homes.specs.declared.Home.{Home}
use Rattle.homes.specs.declared.Home.TheVariants.{Same3, Shift, Vmovl, Nowhere}
use Rattle.homes.proofs.Homes.{homes, listed_home, home_at, home-at, home-named}
use Rattle.homes.proofs.Cells.{vmov-home}
use Rattle.writings.specs.Forms.{Pair, is_number}
use Rattle.write_registers.specs.Same3.{vorr_cell, vmov_writing}
use Rattle.write_immediates.specs.Shift.{vshll_cell, vmovl_writing}
use Rattle.encode.specs.Writing.{in_home, writing, writing_in}
use Rattle.trips.specs.Spelling.{Spelling, spelling, spelled, with_mark, is_zero, moved_name, renamed, is_move, is_long_move, canonical}
use Rattle.trips.proofs.Registers.{same-register}
use Rattle.trips.proofs.Withheld.{canonical-withheld}

-- the pair of a spelling, in the table where its name is at home; and in an edition
abbrev pub asked : Spelling → Answer Pair
asked s =
    in_home (home_of (name_of s.mnemonic) (is_number s.third)) (name_of s.mnemonic) s.count s.first s.second s.third

abbrev pub asked_in : Edition → Spelling → Answer Pair
asked_in edition s = choose (withholds edition (name_of s.mnemonic)) (refused 7) (asked s)

module _ (edition : Edition) (i : Insn) where
  pub writing-is : writing_in edition i ≡ asked_in edition (spelling i)
  unfolding writing
  writing-is = refl

  -- mark and address are no part of it
  pub marked-is : (mark : Mark) (address : ℕ) → writing_in edition (with_mark i mark address) ≡ asked_in edition (spelling i)
  unfolding writing place_at
  marked-is mark address = refl

-- a place that is absent from the count on
abbrev Settled : ℕ → ℕ → Operand → Type 0
Settled k count o = choose (ltb k count) o Absent ≡ o

twice : (b : Bool) (o : Operand) → choose b (choose b o Absent) Absent ≡ choose b o Absent
twice true o = refl
twice false o = refl

-- the record of a spelling has that spelling
respelled : (s : Spelling) (mark : Mark) (address : ℕ) → Settled 0 s.count s.first → Settled 1 s.count s.second → Settled 2 s.count s.third
    → spelling (spelled s mark address) ≡ s
unfolding place_at
respelled s mark address e0 e1 e2 = λ k. record { mnemonic = s.mnemonic; count = s.count; first = e0 k; second = e1 k; third = e2 k }

pub read-so : (i : Insn) (mark : Mark) (address : ℕ) → spelling (spelled (canonical (spelling i)) mark address) ≡ canonical (spelling i)
unfolding canonical place_at
read-so i mark address = go (is_move s) (is_long_move s)
  where
    s : Spelling
    s = spelling i

    read_as : Bool → Bool → Spelling
    read_as move long = choose move (renamed "vmov" s) (choose long (renamed (moved_name (name_of s.mnemonic)) s) s)

    go : (move long : Bool) → spelling (spelled (read_as move long) mark address) ≡ read_as move long
    go true long = respelled (renamed "vmov" s) mark address refl refl refl
    go false true = respelled (renamed (moved_name (name_of s.mnemonic)) s) mark address refl refl refl
    go false false =
        respelled s mark address
        (twice (ltb 0 i.count) i.first) (twice (ltb 1 i.count) i.second) (twice (ltb 2 i.count) i.third)

-- VORR stands at its cell, whatever the third operand
vorr-home : (number : Bool) → home_of "vorr" number ≡ Same3 vorr_cell
unfolding names name_of homes
vorr-home true = home-named 12 "vorr" refl true
vorr-home false = home-named 12 "vorr" refl false

-- VMOVL's names are numbered from 255, three a sign; its cell is U:size
abbrev moved : ℕ → ℕ
moved m = number_of (moved_name (name_of m))

abbrev moved_cell : ℕ → ℕ
moved_cell m = (moved m - 255) / 3 * 4 + (moved m - 255) % 3

abbrev if_moved : ℕ → Home → Home
if_moved m h = choose (eqt (moved_name (name_of m)) "") Nowhere h

module _ (m : ℕ) (e : eqt (moved_name (name_of m)) "" ≡ false) where
  known : m < 346
  known = sides 346 m (λ h. h) (λ h. wrong (sym e ∙ ap (λ (s : String). eqt (moved_name s) "") (no_name m h)))

  long-home : home_at true m ≡ Shift (vshll_cell (moved_cell m))
  unfolding values names name_of number_of homes
  long-home =
      home-at true m
      ∙ rw e at (agree (λ (m : ℕ). if_moved m (listed_home true m)) (λ (m : ℕ). if_moved m (Shift (vshll_cell (moved_cell m)))) 346 refl m known)

  moved-home : home_at false (moved m) ≡ Vmovl (moved_cell m)
  unfolding values names name_of number_of homes
  moved-home =
      home-at false (moved m)
      ∙ rw e at (agree (λ (m : ℕ). if_moved m (listed_home false (moved m))) (λ (m : ℕ). if_moved m (Vmovl (moved_cell m))) 346 refl m known)

zero_is : (o : Operand) → is_zero o ≡ true → o ≡ Imm (pos 0)
zero_is (Imm (pos n)) e = ap (λ (k : ℕ). Imm (pos k)) (eqb-true n 0 e)
zero_is (Imm (negsuc n)) e = wrong e
zero_is (D n) e = wrong e
zero_is (Q n) e = wrong e
zero_is (S n) e = wrong e
zero_is (Float x) e = wrong e
zero_is Other e = wrong e
zero_is Absent e = wrong e

module _ (s : Spelling) where
  abbrev name : String
  name = name_of s.mnemonic

  as_moved : is_move s ≡ true → asked (renamed "vmov" s) ≡ asked s
  unfolding vmov_writing
  as_moved e =
      let t = both_true (eqb s.count 3) _ e in
      let u = both_true (eqt name "vorr") _ t.1 in
      rw (vmov-home, same_text name "vorr" u.0, vorr-home (is_number s.third), eqb-true s.count 3 t.0, same-register s.second s.third u.1)

  as-long-moved : is_long_move s ≡ true → asked (renamed (moved_name name) s) ≡ asked s
  unfolding vmovl_writing
  as-long-moved e =
      let t = both_true (eqb s.count 3) _ e in
      let u = both_true (not (eqt (moved_name name) "")) _ t.1 in
      let n = not-holds _ u.0 in
      rw (moved-home s.mnemonic n, zero_is s.third u.1, long-home s.mnemonic n, eqb-true s.count 3 t.0)

  asked-so : asked (canonical s) ≡ asked s
  unfolding canonical
  asked-so = go (is_move s) (is_long_move s) refl refl
    where
      go : (move long : Bool) → is_move s ≡ move → is_long_move s ≡ long
          → asked (choose move (renamed "vmov" s) (choose long (renamed (moved_name name) s) s)) ≡ asked s
      go true long em el = as_moved em
      go false true em el = as-long-moved el
      go false false em el = refl

-- what a spelling is read as is written as the spelling is
pub as_read : (edition : Edition) (s : Spelling) → asked_in edition (canonical s) ≡ asked_in edition s
as_read C s = asked-so s
as_read B s = rw (canonical-withheld s, asked-so s)
