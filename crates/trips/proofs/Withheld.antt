-- The names and cells that edition B withholds: a withheld name is written into a withheld cell, which is read with it.
-- Assumes nothing.
use mathlib.Core.Path.{◌≡◌, refl, sym, ap, ◌∙◌}
use mathlib.Core.Bool.{Bool, true, false, not}
use Prim.Native.Nat.{ℕ}
use Prim.Native.String.{String}
use lib.Dec.{eqb}
use lib.Text.{eqt}
use Rattle.laws.specs.Answer.{accepted}
use Rattle.laws.specs.Choice.{choose}
use Rattle.laws.proofs.Never.{wrong}
use Rattle.laws.proofs.Range.{values}
use Rattle.laws.proofs.Tests.{both_true, both-no, not-holds, same_text}
use Rattle.insn.specs.declared.Edition.TheVariants.{B}
use Rattle.insn.specs.declared.Insn.{Insn}
use Rattle.insn.specs.declared.Mark.TheVariants.{T1}
use Rattle.insn.specs.Record.{place_at}
use Rattle.names.specs.Names.{names, name_of, number_of, pairwise}
use Rattle.names.proofs.Known.{at_every}
use Rattle.names.proofs.Spellings.{no_name}
use Rattle.editions.specs.Editions.{withholds}
use Rattle.homes.specs.Home.{home_of}
use Rattle.homes.specs.declared.Home.{Home}
use Rattle.homes.specs.declared.Home.TheVariants.{Same3, Shift, Vmovl, Modimm, Diff, Vmov, Nowhere}
use Rattle.homes.proofs.Homes.{homes, listed_home, home-at}
use Rattle.homes.proofs.Cells.{same3-stands}
use Rattle.fields.specs.Registers.{vec_of}
use Rattle.readings.specs.Operands as Read
use Rattle.readings.proofs.Parts.{operands}
use Rattle.read_registers.specs.Same3.{shifts_by_register, same3_of, same3_name, same3_reading}
use Rattle.decode.specs.Reading.{family_of, in_family, reading}
use Rattle.decode.specs.Editions.{is_three_same, is_withheld}
use Rattle.decode.specs.declared.Family.{Family}
use Rattle.decode.specs.declared.Family.TheVariants.{ThreeSame, ThreeDifferent, Shift as shift, ModifiedImmediate, NoFamily}
use Rattle.writings.specs.Forms.{pair, is_number}
use Rattle.encode.specs.Writing.{in_home, writing}
use Rattle.trips.specs.Spelling.{Spelling, is_move, is_long_move, moved_name, renamed, canonical}
use Rattle.trips.specs.Promises.{is_fused_name}
use Rattle.trips.proofs.RoundSame3.{written, written-cell}

-- the names that it withholds are those of VFMA and VFMS
pub fused-name : (m : ℕ) → is_fused_name (name_of m) ≡ withholds B (name_of m)
unfolding values names name_of
fused-name = at_every (λ (m : ℕ). is_fused_name (name_of m)) (withholds B) refl (λ m h. ap is_fused_name (no_name m h))

-- they are at home in table A7-9
abbrev in_same3 : Home → Bool
in_same3 (Same3 k) = true
in_same3 (Shift k) = false
in_same3 (Vmovl k) = false
in_same3 (Modimm k) = false
in_same3 (Diff k) = false
in_same3 Vmov = false
in_same3 Nowhere = false

abbrev housed : Bool → ℕ → Bool
housed number m = choose (withholds B (name_of m)) (in_same3 (listed_home number m)) true

all-housed : (number : Bool) (m : ℕ) → housed number m ≡ true
unfolding values names name_of homes
all-housed true = at_every (housed true) (λ (s : String). true) refl (λ m h. rw (no_name m h))
all-housed false = at_every (housed false) (λ (s : String). true) refl (λ m h. rw (no_name m h))

in-same3 : (number : Bool) (m : ℕ) → withholds B (name_of m) ≡ true → in_same3 (home_of (name_of m) number) ≡ true
in-same3 number m w = ap in_same3 (home-at number m) ∙ rw w at (all-housed number m)

-- so the pair of a withheld name is of a withheld cell
pub written-withheld : (i : Insn) (hw1 hw2 : ℕ) → withholds B (name_of i.mnemonic) ≡ true → writing i ≡ accepted (pair hw1 hw2) → is_withheld B hw1 hw2 ≡ true
unfolding writing
written-withheld i hw1 hw2 w e = go (home_of (name_of m) number) refl e
  where
    m : ℕ
    m = i.mnemonic

    number : Bool
    number = is_number (place_at i 2)

    elsewhere : (h : Home) → home_of (name_of m) number ≡ h → in_same3 h ≡ true
    elsewhere h e = sym (ap in_same3 e) ∙ in-same3 number m w

    go : (h : Home) → home_of (name_of m) number ≡ h
        → in_home h (name_of m) i.count (place_at i 0) (place_at i 1) (place_at i 2) ≡ accepted (pair hw1 hw2) → is_withheld B hw1 hw2 ≡ true
    go (Same3 k) h q =
        let st = same3-stands number m k h in
        let c = written-cell k st.within (written k (name_of m) i.count (place_at i 0) (place_at i 1) (place_at i 2) hw1 hw2 q) in
        rw (c.1, st.spelled, c.0, w)
    go (Shift k) h q = wrong (elsewhere (Shift k) h)
    go (Vmovl k) h q = wrong (elsewhere (Vmovl k) h)
    go (Modimm k) h q = wrong (elsewhere (Modimm k) h)
    go (Diff k) h q = wrong (elsewhere (Diff k) h)
    go Vmov h q = wrong (elsewhere Vmov h)
    go Nowhere h q = wrong (elsewhere Nowhere h)

-- a withheld name is not blank, pairwise or vorr, and is the name of its number
pub record Plain (name : String) : Type 0 where
  pub filled : eqt name "" ≡ false
  pub single : pairwise name ≡ false
  pub other : eqt name "vorr" ≡ false
  pub back : name_of (number_of name) ≡ name

plain : (name : String) → withholds B name ≡ true → Plain name
unfolding names name_of number_of pairwise
plain name w = go (eqt "vfma.f32" name) (eqt "vfms.f32" name) refl refl w
  where
    go : (a b : Bool) → eqt "vfma.f32" name ≡ a → eqt "vfms.f32" name ≡ b → choose a true (choose b true false) ≡ true → Plain name
    go true b ea eb h = rw (← same_text "vfma.f32" name ea) (record { filled = refl; single = refl; other = refl; back = refl })
    go false true ea eb h = rw (← same_text "vfms.f32" name eb) (record { filled = refl; single = refl; other = refl; back = refl })
    go false false ea eb h = wrong h

-- so its cell is read with it
cell-read : (name : String) (quad : Bool) (opc d n m address : ℕ) (i : Insn) → Plain name
    → same3_of name quad opc d n m address ≡ accepted i → i.mnemonic ≡ number_of name
unfolding same3_of
cell-read name quad opc d n m address i p e = go (shifts_by_register opc) (rw (p.filled, p.single, both-no quad, p.other) at e)
  where
    go : (s : Bool) → choose s (Read.three (number_of name) T1 address (vec_of quad d) (vec_of quad m) (vec_of quad n)) (Read.three (number_of name) T1 address (vec_of quad d) (vec_of quad n) (vec_of quad m)) ≡ accepted i
        → i.mnemonic ≡ number_of name
    go true q = ap (λ (j : Insn). j.mnemonic) (sym (operands _ T1 address _ _ _ i q).is)
    go false q = ap (λ (j : Insn). j.mnemonic) (sym (operands _ T1 address _ _ _ i q).is)

three-same : (f : Family) → is_three_same f ≡ true → f ≡ ThreeSame
three-same ThreeSame e = refl
three-same ThreeDifferent e = wrong e
three-same shift e = wrong e
three-same ModifiedImmediate e = wrong e
three-same NoFamily e = wrong e

pub withheld-read : (hw1 hw2 address : ℕ) (i : Insn) → is_withheld B hw1 hw2 ≡ true → reading hw1 hw2 address ≡ accepted i
    → withholds B (name_of i.mnemonic) ≡ true
unfolding reading in_family same3_reading
withheld-read hw1 hw2 address i w e =
    let t = both_true (withholds B (same3_name hw1 hw2)) _ w in
    let p = plain (same3_name hw1 hw2) t.0 in
    let named = cell-read (same3_name hw1 hw2) _ _ _ _ _ address i p (rw (three-same (family_of hw1 hw2) t.1) at e) in
    rw (named, p.back) t.0

-- and a name that is read as another is withheld exactly if the other is: neither is
abbrev moved_withheld : String → Bool
moved_withheld name = choose (eqt (moved_name name) "") (withholds B name) (withholds B (name_of (number_of (moved_name name))))

moved-withheld : (m : ℕ) → moved_withheld (name_of m) ≡ withholds B (name_of m)
unfolding values names name_of number_of
moved-withheld = at_every (λ (m : ℕ). moved_withheld (name_of m)) (withholds B) refl (λ m h. ap moved_withheld (no_name m h))

vmov-kept : withholds B (name_of (number_of "vmov")) ≡ false
unfolding names name_of number_of
vmov-kept = refl

pub canonical-withheld : (s : Spelling) → withholds B (name_of (canonical s).mnemonic) ≡ withholds B (name_of s.mnemonic)
unfolding canonical
canonical-withheld s = go (is_move s) (is_long_move s) refl refl
  where
    name : String
    name = name_of s.mnemonic

    go : (move long : Bool) → is_move s ≡ move → is_long_move s ≡ long
        → withholds B (name_of (choose move (renamed "vmov" s) (choose long (renamed (moved_name name) s) s)).mnemonic) ≡ withholds B name
    go true long em el =
        let t = both_true (eqb s.count 3) _ em in
        let vorr = same_text name "vorr" (both_true (eqt name "vorr") _ t.1).0 in
        vmov-kept ∙ ap (withholds B) (sym vorr)
    go false true em el =
        let t = both_true (eqb s.count 3) _ el in
        let other = not-holds (eqt (moved_name name) "") (both_true (not (eqt (moved_name name) "")) _ t.1).0 in
        rw other at (moved-withheld s.mnemonic)
    go false false em el = refl
