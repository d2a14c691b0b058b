-- The promises of specs/Promises.antt.
-- Assumes nothing.
use mathlib.Core.Bool.{Bool, true, false}
use mathlib.Core.Path.{◌≡◌, refl, sym, ◌∙◌}
use Prim.Native.Nat.{ℕ, ◌<◌}
use native.Mathlib.Omega.{arith}
use Rattle.laws.specs.Answer.{accepted}
use Rattle.laws.proofs.Never.{never}
use Rattle.laws.proofs.Tests.{passed}
use Rattle.insn.specs.declared.Edition.TheVariants.{B, C}
use Rattle.insn.specs.declared.Insn.{Insn}
use Rattle.insn.specs.declared.Mark.{Mark}
use Rattle.insn.specs.declared.Operand.TheVariants.{Absent}
use Rattle.insn.specs.Record.{place_at}
use Rattle.insn.proofs.Places.{past}
use Rattle.homes.specs.Home.{home_of}
use Rattle.names.specs.Names.{name_of}
use Rattle.editions.specs.Editions.{withholds}
use Rattle.homes.specs.declared.Home.{Home}
use Rattle.homes.specs.declared.Home.TheVariants.{Same3, Shift, Vmovl, Modimm, Diff, Vmov, Nowhere}
use Rattle.decode.specs.Reading.{reading, family_of, in_family}
use Rattle.decode.specs.Editions.{is_withheld}
use Rattle.decode.proofs.Editions.{fused-cell}
use Rattle.decode.specs.declared.Family.{Family}
use Rattle.decode.specs.declared.Family.TheVariants.{ThreeSame, ThreeDifferent, Shift as shift, ModifiedImmediate, NoFamily}
use Rattle.writings.specs.Forms.{pair, is_number}
use Rattle.trips.specs.Spelling.{Held, spelling, canonical, with_mark}
use Rattle.encode.specs.Writing.{in_home, writing}
use Rattle.trips.specs.Promises.{ReadThenWritten, ReadsAs, WrittenThenRead, UnderC, WithheldUnderB, SameOtherwise, FusedExactly, NeverUnderB}
use Rattle.trips.proofs.Routing.{Route, routed}
use Rattle.trips.proofs.RoundSame3.{same3-back, same3-forth, vmov-back}
use Rattle.trips.proofs.RoundDiff.{diff-back, diff-forth}
use Rattle.trips.proofs.RoundShift.{shift_back, vmovl-back}
use Rattle.trips.proofs.ShiftForth.{shift-forth}
use Rattle.trips.proofs.RoundModimm.{modimm-back, modimm-forth}
use Rattle.trips.proofs.Withheld.{fused-name, written-withheld, withheld-read, canonical-withheld}

-- the round trips under C, where a pair is read by its family and a record written where its name is at home
forth : (hw1 hw2 address : ℕ) (i : Insn) (mark : Mark) (other : ℕ) → hw1 < 65536 → hw2 < 65536
    → reading hw1 hw2 address ≡ accepted i → writing (with_mark i mark other) ≡ accepted (pair hw1 hw2)
unfolding reading in_family
forth hw1 hw2 address i mark other l1 l2 e = go (family_of hw1 hw2) (routed hw1 hw2) e
  where
    go : (f : Family) → Route hw1 hw2 f → in_family f hw1 hw2 address ≡ accepted i → writing (with_mark i mark other) ≡ accepted (pair hw1 hw2)
    go ThreeSame r q = same3-forth hw1 hw2 l1 l2 r address i mark other q
    go ThreeDifferent r q = diff-forth hw1 hw2 l1 l2 r address i mark other q
    go shift r q = shift-forth hw1 hw2 l1 l2 r address i mark other q
    go ModifiedImmediate r q = modimm-forth hw1 hw2 l1 l2 r address i mark other q
    go NoFamily r q = never (cc)

back : (i : Insn) (hw1 hw2 address : ℕ) → Held (place_at i 1)
    → writing i ≡ accepted (pair hw1 hw2) → ReadsAs C hw1 hw2 address (canonical (spelling i))
unfolding writing
back i hw1 hw2 address held e = go (home_of (name_of i.mnemonic) (is_number (place_at i 2))) refl e
  where
    absent : i.count ≡ 2 → place_at i 2 ≡ Absent
    absent two = sym (past i 2 (omega arith))

    go : (h : Home) → home_of (name_of i.mnemonic) (is_number (place_at i 2)) ≡ h
        → in_home h (name_of i.mnemonic) i.count (place_at i 0) (place_at i 1) (place_at i 2) ≡ accepted (pair hw1 hw2)
        → ReadsAs C hw1 hw2 address (canonical (spelling i))
    go (Same3 k) h q = same3-back i.mnemonic k i.count (place_at i 0) (place_at i 1) (place_at i 2) _ hw1 hw2 address h q
    go (Shift k) h q = shift_back i.mnemonic k i.count (place_at i 0) (place_at i 1) (place_at i 2) _ hw1 hw2 address h q
    go (Vmovl k) h q = vmovl-back i.mnemonic k i.count (place_at i 0) (place_at i 1) (place_at i 2) _ hw1 hw2 address h absent q
    go (Modimm k) h q = modimm-back i.mnemonic k i.count (place_at i 0) (place_at i 1) (place_at i 2) _ hw1 hw2 address h absent held q
    go (Diff k) h q = diff-back i.mnemonic k i.count (place_at i 0) (place_at i 1) (place_at i 2) _ hw1 hw2 address h q
    go Vmov h q = vmov-back i.mnemonic i.count (place_at i 0) (place_at i 1) (place_at i 2) _ hw1 hw2 address h absent q
    go Nowhere h q = never (cc)

-- what is read has a withheld name exactly if its cell is withheld
read-withheld : (hw1 hw2 address : ℕ) (i : Insn) → hw1 < 65536 → hw2 < 65536 → reading hw1 hw2 address ≡ accepted i
    → withholds B (name_of i.mnemonic) ≡ is_withheld B hw1 hw2
read-withheld hw1 hw2 address i l1 l2 e = go (withholds B (name_of i.mnemonic)) (is_withheld B hw1 hw2) refl refl
  where
    go : (name cell : Bool) → withholds B (name_of i.mnemonic) ≡ name → is_withheld B hw1 hw2 ≡ cell → name ≡ cell
    go true cell w c = sym (written-withheld i hw1 hw2 w (forth hw1 hw2 address i i.mark i.address l1 l2 e)) ∙ c
    go false true w c = sym w ∙ withheld-read hw1 hw2 address i c e
    go false false w c = refl

pub read_then_written : ReadThenWritten
read_then_written C hw1 hw2 address i mark other l1 l2 e = forth hw1 hw2 address i mark other l1 l2 e
read_then_written B hw1 hw2 address i mark other l1 l2 e =
    let p = passed (is_withheld B hw1 hw2) 3 _ i e in
    rw (read-withheld hw1 hw2 address i l1 l2 p.1, p.0) (forth hw1 hw2 address i mark other l1 l2 p.1)

pub written_then_read : WrittenThenRead
written_then_read C i hw1 hw2 address held e = back i hw1 hw2 address held e
written_then_read B i hw1 hw2 address held e =
    let p = passed (withholds B (name_of i.mnemonic)) 7 _ (pair hw1 hw2) e in
    let r = back i hw1 hw2 address held p.1 in
    let cell = read-withheld hw1 hw2 address _ r.first-halfword r.second-halfword r.read in
    record {
      first-halfword = r.first-halfword;
      second-halfword = r.second-halfword;
      mark = r.mark;
      read = rw (← cell, canonical-withheld (spelling i) ∙ p.0) r.read;
    }

pub under_c : UnderC
under_c = (λ hw1 hw2 address. refl, λ i. refl)

pub withheld_under_b : WithheldUnderB
withheld_under_b = (λ hw1 hw2 address fused. rw (fused-cell hw1 hw2, fused), λ i fused. rw (← fused-name i.mnemonic, fused))

pub same_otherwise : SameOtherwise
same_otherwise = (λ hw1 hw2 address free. rw (fused-cell hw1 hw2, free), λ i free. rw (← fused-name i.mnemonic, free))

pub fused_exactly : FusedExactly
fused_exactly hw1 hw2 address i l1 l2 e = fused-name i.mnemonic ∙ read-withheld hw1 hw2 address i l1 l2 e ∙ fused-cell hw1 hw2

pub never_under_b : NeverUnderB
never_under_b hw1 hw2 address i l1 l2 e =
    let p = passed (is_withheld B hw1 hw2) 3 _ i e in
    fused-name i.mnemonic ∙ read-withheld hw1 hw2 address i l1 l2 p.1 ∙ p.0
