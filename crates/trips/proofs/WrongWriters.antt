-- Four writers with one fault each, and the proof that none of them goes by pairs: for each a record, of which antt computes
-- the refusal, or the reading of its pair.
-- Assumes nothing.
use mathlib.Core.Bool.{Bool, true, false}
use mathlib.Core.Path.{◌≡◌, refl, sym, ap, ◌∙◌}
use Prim.Native.Nat.{ℕ}
use native.Mathlib.Omega.{arith}
use lib.Dec.{eqb}
use lib.Ieee as Ieee
use lib.Ieee.{nan, inf, fin, fits}
use lib.IntN.{pos}
use Rattle.laws.specs.Answer.{Answer, accepted, refused}
use Rattle.laws.specs.Choice.{choose}
use Rattle.laws.specs.Search.{first_from}
use Rattle.laws.proofs.Never.{wrong}
use Rattle.insn.specs.declared.Edition.{Edition}
use Rattle.insn.specs.declared.Edition.TheVariants.{C}
use Rattle.insn.specs.declared.Insn.{Insn}
use Rattle.insn.specs.declared.Mark.TheVariants.{T1}
use Rattle.insn.specs.declared.Operand.TheVariants.{D, Q, Imm, Float, Absent}
use Rattle.insn.specs.Record.{place_at, value_or}
use Rattle.names.specs.Names.{names, name_of, number_of}
use Rattle.tables.specs.Cells.{cells_of}
use Rattle.register_tables.specs.Same3.{same3}
use Rattle.register_tables.specs.Diff.{diff_rows, diff_cells}
use Rattle.immediate_tables.specs.Shift.{shift_rows, shift_cells, shift_classes, vmovl}
use Rattle.immediate_tables.specs.Modimm.{modimm}
use Rattle.homes.specs.Home.{place_in, other_home, home_of}
use Rattle.fields.specs.Registers.{Bits, vec_of, vec_bits}
use Rattle.floats.specs.Floats.{float_of}
use Rattle.amounts.specs.Shifts.{is_escape, right_end, left_start, size_code}
use Rattle.immediates.specs.Modified.{constant_at, operand_in, needs_nonzero}
use Rattle.readings.specs.Operands.{insn, two}
use Rattle.read_immediates.specs.Shift.{forbidden, column_of, shifted, shift_of, shift_reading, is_long_by_zero}
use Rattle.read_immediates.specs.Modimm.{modimm_of, modimm_reading}
use Rattle.decode.specs.Reading.{family_of, in_family, reading}
use Rattle.writings.specs.Forms.{Pair, is_number, register_in, all_three}
use Rattle.amount_values.specs.Amounts.{amount_reads, amount_in}
use Rattle.write_registers.specs.Same3.{same3_writing}
use Rattle.write_immediates.specs.Shift.{shift_classed}
use Rattle.encode.specs.Writing.{writing, writing_in}
use Rattle.trips.specs.Spelling.{Held, spelling, is_long_move, canonical}
use Rattle.trips.specs.Writable.{PairFor, GoesByPairs}
use Rattle.trips.proofs.Values.{is_refusal}
use Rattle.trips.proofs.Writable.{written-if-read, nothing_held_back}

-- one refusal given for another
abbrev instead_of : ℕ → ℕ → Answer Pair → Answer Pair
instead_of due given (accepted p) = accepted p
instead_of due given (refused n) = refused (choose (eqb n due) given n)

-- a record refused that ours writes
abbrev withdrawn : Answer Pair → Answer Pair
withdrawn (accepted p) = refused 9
withdrawn (refused n) = refused n

-- a D or Q register that there is
abbrev is_register : Answer Bits → Bool
is_register (accepted b) = true
is_register (refused n) = false

abbrev is_negative : Ieee.Float → Bool
is_negative nan = false
is_negative (inf negative) = negative
is_negative (fin negative m e) = negative

-- it refuses VSHLL by 0
abbrev refuses_zero : Edition → Insn → Answer Pair
refuses_zero edition i = choose (is_long_move (spelling i)) (withdrawn (writing_in edition i)) (writing_in edition i)

-- it gives 8 for an amount out of range
abbrev eight_for_amount : Edition → Insn → Answer Pair
eight_for_amount edition i = choose (is_number (place_at i 2)) (instead_of 9 8 (writing_in edition i)) (writing_in edition i)

-- it gives 9 for 8 where the first place is no such register
abbrev nine_for_register : Edition → Insn → Answer Pair
nine_for_register edition i = choose (is_register (vec_bits (place_at i 0))) (writing_in edition i) (instead_of 8 9 (writing_in edition i))

-- it refuses VMOV.F32 of a negative float
abbrev refuses_negative : Edition → Insn → Answer Pair
refuses_negative edition i = choose (value_or (λ v. false) is_negative false (place_at i 1)) (withdrawn (writing_in edition i)) (writing_in edition i)

-- VSHLL.S8 Q0, D1, #0 has a pair, which is read as VMOVL.S8
by_zero : Insn
by_zero = insn (number_of "vshll.s8") T1 0 3 (Q 0) (D 1) (Imm (pos 0))

zero-pair : PairFor C by_zero
unfolding by_zero reading in_family family_of shift_reading shift_of forbidden column_of is_long_by_zero shifted two is_escape size_code right_end left_start shift_rows shift_cells shift_classes vmovl names name_of number_of vec_of canonical place_at
zero-pair =
    record {
      hw1 = 0xef88;
      hw2 = 0x0a11;
      first-halfword = omega arith;
      second-halfword = omega arith;
      found = insn (number_of "vmovl.s8") T1 0 2 (Q 0) (D 1) Absent;
      read = refl;
      same = refl;
    }

-- VMOV.F32 D0, #-1 has a pair
negative : Insn
negative = insn (number_of "vmov.f32") T1 0 2 (D 0) (Float (float_of 0xf0)) Absent

negative_pair : PairFor C negative
unfolding negative reading in_family family_of modimm_reading modimm_of two is_escape modimm constant_at operand_in needs_nonzero names name_of number_of vec_of canonical place_at
negative_pair =
    record {
      hw1 = 0xff87;
      hw2 = 0x0f10;
      first-halfword = omega arith;
      second-halfword = omega arith;
      found = negative;
      read = refl;
      same = refl;
    }

-- VSHR.S8 D0, D1, #9 is refused with 9
too_far : Insn
too_far = insn (number_of "vshr.s8") T1 0 3 (D 0) (D 1) (Imm (pos 9))

far-nine : writing too_far ≡ refused 9
unfolding too_far writing place_at home_of place_in other_home cells_of same3 shift_rows shift_cells shift_classes vmovl modimm diff_rows diff_cells names name_of number_of register_in vec_bits all_three shift_classed amount_in amount_reads first_from forbidden is_escape column_of size_code right_end left_start
far-nine = refl

-- VADD.I8 D32, D1, D2 is refused with 8
no_register : Insn
no_register = insn (number_of "vadd.i8") T1 0 3 (D 32) (D 1) (D 2)

none-eight : writing no_register ≡ refused 8
unfolding no_register writing place_at home_of place_in other_home cells_of same3 shift_rows shift_cells vmovl modimm diff_rows diff_cells names name_of number_of register_in vec_bits all_three same3_writing
none-eight = refl

-- what a writer that keeps the claim answers to a record under C
module _ (write : Edition → Insn → Answer Pair) (h : GoesByPairs write) (i : Insn) (held : Held (place_at i 1)) where
  not-withdrawn : PairFor C i → write C i ≡ withdrawn (writing i) → ⊥
  not-withdrawn c e = (h C i held).none-if-refused (9, e ∙ ap withdrawn (written-if-read C i c).1) c

  has-our-nine : writing i ≡ refused 9 → write C i ≡ refused 9
  has-our-nine e =
      let ours = (nothing_held_back C i held).another-if-nine e in
      (h C i held).nine-if-another ours.0 ours.1

  nine-is-ours : write C i ≡ refused 9 → writing i ≡ refused 9
  nine-is-ours e =
      let its = (h C i held).another-if-nine e in
      (nothing_held_back C i held).nine-if-another its.0 its.1

eight-is-nine : {A : Type 0} → ◌≡◌ {A = Answer Pair} (refused 8) (refused 9) → A
eight-is-nine e = wrong (ap (is_refusal 9) e)

pub refuses-zero : ¬ GoesByPairs refuses_zero
unfolding by_zero place_at names name_of number_of
refuses-zero h = not-withdrawn refuses_zero h by_zero tt zero-pair refl

pub eight-for-amount : ¬ GoesByPairs eight_for_amount
unfolding too_far place_at
eight-for-amount h = eight-is-nine (sym (ap (instead_of 9 8) far-nine) ∙ has-our-nine eight_for_amount h too_far tt far-nine)

pub nine-for-register : ¬ GoesByPairs nine_for_register
unfolding no_register place_at vec_bits
nine-for-register h = eight-is-nine (sym none-eight ∙ nine-is-ours nine_for_register h no_register tt (ap (instead_of 8 9) none-eight))

pub refuses-negative : ¬ GoesByPairs refuses_negative
unfolding negative place_at float_of fits
refuses-negative h = not-withdrawn refuses_negative h negative refl negative_pair refl
