-- The promises of specs/Promises.antt.
-- Assumes nothing.
use mathlib.Core.Path.{◌≡◌, refl, ap, ◌∙◌}
use mathlib.Core.Bool.{Bool, true, false}
use mathlib.Core.List.{List, [], ◌∷◌, ◌++◌, map}
use Prim.Native.Nat.{ℕ, zero, suc, ◌+◌, ◌*◌, ◌/◌, ◌≤◌}
use native.Mathlib.Numerals.{add-one}
use native.Mathlib.Omega.{arith}
use lib.Ieee.{eq, odd}
use lib.ListN.{length, length-append}
use Rattle.insn.proofs.Promises.{answers_apart}
use Rattle.laws.specs.Choice.{choose}
use Rattle.laws.specs.Search.{first_from}
use Rattle.laws.specs.Signed.{twos_complement}
use Rattle.immediate_tables.specs.Modimm.{modimm}
use Rattle.names.specs.Names.{names, name_of, number_of, pairwise, codes}
use Rattle.register_tables.specs.Same3.{same3}
use Rattle.immediate_tables.specs.Shift.{shift_rows, shift_cells, shift_classes, vmovl}
use Rattle.fields.specs.Registers.{vec_of}
use Rattle.floats.specs.Floats.{float_of}
use Rattle.floats.specs.Found.{find_float}
use Rattle.immediates.specs.Modified.{constant_at, element, operand_in, needs_nonzero}
use Rattle.amounts.specs.Shifts.{is_escape, right_end, left_start, size_code}
use Rattle.readings.specs.Operands.{two, three}
use Rattle.read_registers.specs.Same3.{same3_of, same3_reading}
use Rattle.read_immediates.specs.Shift.{forbidden, column_of, shift_of, shift_reading}
use Rattle.read_immediates.specs.Modimm.{modimm_of, modimm_reading}
use Rattle.decode.specs.Reading.{family_of, in_family, reading}
use Rattle.listing.specs.Answers.{enough}
use Rattle.totals.specs.Totals.{family_sort, reading_sort, sort_of, column, count, totals_text}
use Rattle.lines.specs.Listing.{halfword_at, reading_text, line_text, pair_line, pair_sort, numbers_below, figure, is_listable, lines, ended_lines}
use Rattle.listing.specs.Promises.{ListedApart, NeverLonger, TotalsAdd, Sample}
use Rattle.display.specs.Operands.{over_text, operand_text, with_commas, insn_text}
use Rattle.text.specs.Text.{digits, decimal, minus, signed_decimal, hex4}
use Rattle.text.proofs.Decimal.{within}
use Rattle.totals.proofs.Counts.{all-counted}
use Rattle.totals.proofs.Short.{totals-short}
use Rattle.lines.proofs.PairLines.{as_many, ended-last, one_more}
use Rattle.lines.proofs.Short.{line-short}
use Rattle.lines.proofs.Listable.{listable}

pub listed_apart : ListedApart
listed_apart = answers_apart

pair-short : (bytes : List ℕ) (i : ℕ) → i ≤ 16384 → length (pair_line bytes i ++ 10 ∷ []) ≤ 55
unfolding pair_line
pair-short bytes i h =
    let hw1 = halfword_at bytes (4 * i) in
    let hw2 = halfword_at bytes (4 * i + 2) in
    omega (arith, length-append (line_text i hw1 hw2) (10 ∷ []), line-short i hw1 hw2 (omega arith))

pairs-short : (bytes : List ℕ) (n : ℕ) → n ≤ 16384 → length (ended_lines (map (pair_line bytes) (numbers_below n))) ≤ 55 * n
unfolding numbers_below ended_lines
pairs-short bytes zero h = omega arith
pairs-short bytes (suc n) h =
    let e = rw add-one at (one_more bytes n) in
    let before = ended_lines (map (pair_line bytes) (numbers_below n)) in
    omega (arith, ap length e, length-append before (pair_line bytes n ++ 10 ∷ []), pairs-short bytes n (omega arith), pair-short bytes n (omega arith))

pub never_longer : NeverLonger
unfolding lines ended_lines codes
never_longer bytes = go (is_listable (length bytes)) refl
  where
    go : (b : Bool) → is_listable (length bytes) ≡ b
        → length (ended_lines (choose b ((codes "pairs " ++ decimal (length bytes / 4)) ∷ map (pair_line bytes) (numbers_below (length bytes / 4)) ++ totals_text (figure bytes) ∷ []) (codes "refused 11" ∷ []))) ≤ enough
    go true e =
        let n = length bytes / 4 in
        let h = listable (length bytes) e in
        let pairs = map (pair_line bytes) (numbers_below n) in
        let last = totals_text (figure bytes) in
        let sorts = map (pair_sort bytes) (numbers_below n) in
        omega (
          arith,
          h,
          within 4 n (omega (arith, h)),
          pairs-short bytes n (omega (arith, h)),
          totals-short sorts (omega (arith, h, as_many (pair_sort bytes) n)),
          length-append (codes "pairs " ++ decimal n) (10 ∷ ended_lines (pairs ++ last ∷ [])),
          length-append (codes "pairs ") (decimal n),
          ap length (ended-last pairs last),
          length-append (ended_lines pairs) (last ++ 10 ∷ []),
          length-append last (10 ∷ []),
        )
    go false e = omega arith

pub totals_add : TotalsAdd
totals_add bytes = all-counted (map (pair_sort bytes) (numbers_below (length bytes / 4))) ∙ as_many (pair_sort bytes) (length bytes / 4)

pub sample : Sample
unfolding family_sort reading_sort sort_of column count totals_text pair_sort digits decimal minus signed_decimal hex4 over_text operand_text with_commas insn_text reading_text line_text pair_line numbers_below is_listable lines ended_lines codes find_float first_from eq reading in_family family_of same3_of same3_reading shift_of shift_reading modimm_of modimm_reading two three same3 shift_rows shift_cells shift_classes forbidden column_of vmovl modimm names name_of number_of pairwise vec_of is_escape size_code right_end left_start constant_at element operand_in needs_nonzero twos_complement float_of odd
sample = refl
