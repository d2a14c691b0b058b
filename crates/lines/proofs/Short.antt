-- How long the texts are: that of a reading has at most 38 bytes, that of a pair's line 54.
-- Assumes nothing.
use mathlib.Core.Path.{◌≡◌, refl}
use mathlib.Core.Bool.{Bool, true, false}
use mathlib.Core.List.{◌∷◌, ◌++◌}
use Prim.Native.Nat.{ℕ, suc, ◌+◌, ◌*◌, ◌/◌, ◌%◌, ◌^◌, ◌<◌, ◌≤◌}
use Prim.Native.String.{String}
use native.Mathlib.Omega.{arith}
use lib.Dec.{ltb, eqb}
use lib.IntN.{pos, negsuc}
use lib.ListN.{length, length-append}
use lib.Text.{eqt}
use borrow.Author.Tests.{ltb-true}
use Rattle.laws.specs.Answer.{Answer, accepted, refused}
use Rattle.laws.specs.Choice.{choose, both}
use Rattle.laws.specs.Signed.{twos_complement}
use Rattle.laws.proofs.Range.{values, agree, agree2}
use Rattle.laws.proofs.Never.{wrong}
use Rattle.insn.specs.declared.Insn.{Insn}
use Rattle.insn.specs.declared.Mark.{Mark}
use Rattle.insn.specs.declared.Mark.TheVariants.{T1}
use Rattle.insn.specs.declared.Operand.{Operand}
use Rattle.insn.specs.declared.Operand.TheVariants.{D, Q, S, Imm, Float, Other, Absent}
use Rattle.tables.specs.Cells.{cell_at}
use Rattle.immediate_tables.specs.Modimm.{modimm}
use Rattle.names.specs.Names.{codes, name_of, number_of, pairwise}
use Rattle.immediate_tables.specs.Shift.{shift_cells, vmovl}
use Rattle.tables.specs.declared.DiffShape.{DiffShape}
use Rattle.tables.specs.declared.ShiftClass.{ShiftClass}
use Rattle.tables.specs.declared.ShiftClass.TheVariants.{Right, Left, Narrow, Long, Convert}
use Rattle.names.proofs.Spellings.{short}
use Rattle.fields.specs.Registers.{vec_of}
use Rattle.floats.specs.Found.{find_float}
use Rattle.immediates.specs.Modified.{constant_at, element, operand_in, modimm_operand, needs_nonzero}
use Rattle.amounts.specs.Shifts.{right_end, left_start, amount_of, size_code}
use Rattle.readings.specs.Operands.{two, three}
use Rattle.read_registers.specs.Same3.{shifts_by_register, same3_of, same3_reading}
use Rattle.read_registers.specs.Diff.{diff_of, diff_reading}
use Rattle.read_immediates.specs.Shift.{forbidden, column_of, amount, shifted, shift_of, shift_reading, is_long_by_zero}
use Rattle.read_immediates.specs.Modimm.{modimm_of, modimm_reading}
use Rattle.decode.specs.Reading.{family_of, in_family, reading}
use Rattle.decode.specs.declared.Family.{Family}
use Rattle.decode.specs.declared.Family.TheVariants.{ThreeSame, ThreeDifferent, Shift, ModifiedImmediate, NoFamily}
use Rattle.text.specs.Text.{decimal, signed_decimal, hex4}
use Rattle.display.specs.Operands.{operand_text, with_commas, insn_text}
use Rattle.lines.specs.Listing.{reading_text, line_text}
use Rattle.text.proofs.Decimal.{within}
use Rattle.display.proofs.Short.{over-short}
use Rattle.tables.specs.Lengths.{shape_lengths, class_lengths}

-- ---- operands

-- a number that is small enough to be short
small : Operand → Bool
small (D n) = ltb n 32
small (Q n) = ltb n 32
small (S n) = false
small (Imm (pos n)) = ltb n (10 ^ 19)
small (Imm (negsuc n)) = ltb (suc n) (10 ^ 19)
small (Float x) = true
small Other = true
small Absent = true

operand_short : (o : Operand) → small o ≡ true → length (operand_text o) ≤ 21
unfolding operand_text small signed_decimal
operand_short (D n) e = omega (arith, within 1 n (omega (arith, ltb-true n 32 e)))
operand_short (Q n) e = omega (arith, within 1 n (omega (arith, ltb-true n 32 e)))
operand_short (S n) e = wrong e
operand_short (Imm (pos n)) e = omega (arith, within 18 n (ltb-true n (10 ^ 19) e))
operand_short (Imm (negsuc n)) e = omega (arith, within 18 (suc n) (ltb-true (suc n) (10 ^ 19) e))
operand_short (Float x) e = omega (arith, over-short (find_float x))
operand_short Other e = omega arith
operand_short Absent e = omega arith

-- an operand of at most a bytes, or a refusal of at most two digits
abbrev Fits : ℕ → Answer Operand → Type 0
Fits a (accepted o) = length (operand_text o) ≤ a
Fits a (refused n) = n < 100

vec-fits : (quad : Bool) (d : ℕ) → d < 32 → Fits 3 (vec_of quad d)
unfolding vec_of operand_text
vec-fits false d h = omega (arith, within 1 d (omega arith))
vec-fits true d h = go (eqb (d % 2) 0)
  where
    go : (b : Bool) → Fits 3 (choose b (accepted (Q (d / 2))) (refused 6))
    go true = omega (arith, within 1 (d / 2) (omega arith))
    go false = omega arith

amount-fits : (k : ℕ) → k < 1000 → Fits 4 (amount k)
unfolding operand_text signed_decimal
amount-fits k h = omega (arith, within 2 k (omega arith))

-- ---- readings

Short : Answer Insn → Type 0
Short x = length (reading_text x) ≤ 38

refusal-short : (n : ℕ) → n < 100 → Short (refused n)
unfolding Short reading_text codes
refusal-short n h = omega (arith, length-append (codes "refused ") (decimal n), within 1 n (omega arith))

either : (b : Bool) (x y : Answer Insn) → Short x → Short y → Short (choose b x y)
either true x y p q = p
either false x y p q = q

two-short : (m : ℕ) (mark : Mark) (address : ℕ) (x y : Answer Operand) → Fits 3 x → Fits 21 y → Short (two m mark address x y)
unfolding two Short reading_text insn_text with_commas
two-short m mark address (accepted a) (accepted b) p q =
    omega (arith, short m, length-append (codes (name_of m)) (32 ∷ (operand_text a ++ 44 ∷ operand_text b)), length-append (operand_text a) (44 ∷ operand_text b))
two-short m mark address (accepted a) (refused n) p q = refusal-short n q
two-short m mark address (refused n) y p q = refusal-short n p

three-short : (m : ℕ) (mark : Mark) (address : ℕ) (x y z : Answer Operand) → Fits 3 x → Fits 3 y → Fits 4 z → Short (three m mark address x y z)
unfolding three Short reading_text insn_text with_commas
three-short m mark address (accepted a) (accepted b) (accepted c) p q r =
    omega (
      arith,
      short m,
      length-append (codes (name_of m)) (32 ∷ (operand_text a ++ 44 ∷ (operand_text b ++ 44 ∷ operand_text c))),
      length-append (operand_text a) (44 ∷ (operand_text b ++ 44 ∷ operand_text c)),
      length-append (operand_text b) (44 ∷ operand_text c),
    )
three-short m mark address (accepted a) (accepted b) (refused n) p q r = refusal-short n r
three-short m mark address (accepted a) (refused n) z p q r = refusal-short n q
three-short m mark address (refused n) y z p q r = refusal-short n p

wider : (x : Answer Operand) → Fits 3 x → Fits 4 x
wider (accepted o) p = omega arith
wider (refused n) p = p

three-vecs : (m : ℕ) (mark : Mark) (address : ℕ) (qa qb qc : Bool) (a b c : ℕ) → a < 32 → b < 32 → c < 32
    → Short (three m mark address (vec_of qa a) (vec_of qb b) (vec_of qc c))
three-vecs m mark address qa qb qc a b c ha hb hc =
    three-short m mark address (vec_of qa a) (vec_of qb b) (vec_of qc c) (vec-fits qa a ha) (vec-fits qb b hb) (wider (vec_of qc c) (vec-fits qc c hc))

two-vecs : (m : ℕ) (mark : Mark) (address : ℕ) (qa qb : Bool) (a b : ℕ) → a < 32 → b < 32 → Short (two m mark address (vec_of qa a) (vec_of qb b))
two-vecs m mark address qa qb a b ha hb = two-short m mark address (vec_of qa a) (vec_of qb b) (vec-fits qa a ha) (widest (vec_of qb b) (vec-fits qb b hb))
  where
    widest : (x : Answer Operand) → Fits 3 x → Fits 21 x
    widest (accepted o) p = omega arith
    widest (refused n) p = p

same3-short : (name : String) (quad : Bool) (opc d n m address : ℕ) → d < 32 → n < 32 → m < 32 → Short (same3_of name quad opc d n m address)
unfolding same3_of
same3-short name quad opc d n m address hd hn hm =
    either (eqt name "") _ _ (refusal-short 3 (omega arith))
    (either (both quad (pairwise name)) _ _ (refusal-short 5 (omega arith))
    (either (both (eqt name "vorr") (eqb n m)) _ _ (two-vecs (number_of "vmov") T1 address quad quad d m hd hm)
    (either (shifts_by_register opc) _ _ (three-vecs (number_of name) T1 address quad quad quad d m n hd hm hn)
    (three-vecs (number_of name) T1 address quad quad quad d n m hd hn hm))))

diff-short : (name : String) (shape : DiffShape) (mark : Mark) (d n m address : ℕ) → d < 32 → n < 32 → m < 32 → Short (diff_of name shape mark d n m address)
unfolding diff_of
diff-short name shape mark d n m address hd hn hm =
    let quad = shape_lengths shape in
    either (eqt name "") _ _ (refusal-short 3 (omega arith)) (three-vecs (number_of name) mark address quad.d quad.n quad.m d n m hd hn hm)

amount-small : (class : ShiftClass) (l imm6 : ℕ) → l < 2 → imm6 < 64 → amount_of class l imm6 < 1000
unfolding values size_code right_end left_start
amount-small Right l i hl hi = ltb-true _ _ (agree2 (λ (l i : ℕ). ltb (amount_of Right l i) 1000) (λ (l i : ℕ). true) 2 64 refl l i hl hi)
amount-small Narrow l i hl hi = ltb-true _ _ (agree2 (λ (l i : ℕ). ltb (amount_of Narrow l i) 1000) (λ (l i : ℕ). true) 2 64 refl l i hl hi)
amount-small Left l i hl hi = ltb-true _ _ (agree2 (λ (l i : ℕ). ltb (amount_of Left l i) 1000) (λ (l i : ℕ). true) 2 64 refl l i hl hi)
amount-small Long l i hl hi = ltb-true _ _ (agree2 (λ (l i : ℕ). ltb (amount_of Long l i) 1000) (λ (l i : ℕ). true) 2 64 refl l i hl hi)
amount-small Convert l i hl hi = omega arith

with-amount : (m address : ℕ) (qa qb : Bool) (a b k : ℕ) → a < 32 → b < 32 → k < 1000 → Short (three m T1 address (vec_of qa a) (vec_of qb b) (amount k))
with-amount m address qa qb a b k ha hb hk = three-short m T1 address (vec_of qa a) (vec_of qb b) (amount k) (vec-fits qa a ha) (vec-fits qb b hb) (amount-fits k hk)

shifted-short : (class : ShiftClass) (n moved : ℕ) (quad : Bool) (k d m address : ℕ) → d < 32 → m < 32 → k < 1000 → Short (shifted class n moved quad k d m address)
unfolding shifted
shifted-short class n moved q k d m address hd hm hk =
    let quad = class_lengths class q in
    either (is_long_by_zero class k) _ _ (two-vecs moved T1 address quad.d quad.m d m hd hm) (with-amount n address quad.d quad.m d m k hd hm hk)

shift_short : (class : ShiftClass) (u row : ℕ) (quad : Bool) (l imm6 d m address : ℕ) → l < 2 → imm6 < 64 → d < 32 → m < 32 → Short (shift_of class u row quad l imm6 d m address)
unfolding shift_of
shift_short class u row quad l imm6 d m address hl hi hd hm =
    let name = cell_at shift_cells row (column_of class l imm6) in
    either (forbidden class l imm6) _ _ (refusal-short 2 (omega arith))
    (either (eqt name "") _ _ (refusal-short 3 (omega arith))
    (shifted-short class (number_of name) (number_of (cell_at vmovl u (column_of class l imm6))) quad (amount_of class l imm6) d m address hd hm
    (amount-small class l imm6 hl hi)))

-- of op, cmode and imm8, by one number
immediate-small : (t : ℕ) → t < 8192 → small (modimm_operand (t / 4096) (t / 256 % 16) (t % 256)) ≡ true
unfolding values small constant_at element operand_in twos_complement
immediate-small = agree (λ (t : ℕ). small (modimm_operand (t / 4096) (t / 256 % 16) (t % 256))) (λ (t : ℕ). true) 8192 refl

modimm-short : (op cmode imm8 : ℕ) (quad : Bool) (d address : ℕ) → op < 2 → cmode < 16 → imm8 < 256 → d < 32 → Short (modimm_of op cmode imm8 quad d address)
unfolding modimm_of
modimm-short op cmode imm8 quad d address ho hc hi hd =
    let t = op * 4096 + cmode * 256 + imm8 in
    let e : t / 4096 ≡ op = omega arith in
    let f : t / 256 % 16 ≡ cmode = omega arith in
    let g : t % 256 ≡ imm8 = omega arith in
    let s : small (modimm_operand op cmode imm8) ≡ true = rw (e, f, g) at (immediate-small t (omega arith)) in
    let name = cell_at modimm op cmode in
    either (eqt name "") _ _ (refusal-short 3 (omega arith))
    (either (both (eqb imm8 0) (needs_nonzero cmode)) _ _ (refusal-short 4 (omega arith))
    (two-short (number_of name) T1 address (vec_of quad d) (accepted (modimm_operand op cmode imm8)) (vec-fits quad d hd) (operand_short (modimm_operand op cmode imm8) s)))

family-short : (f : Family) (hw1 hw2 address : ℕ) → Short (in_family f hw1 hw2 address)
unfolding in_family same3_reading diff_reading shift_reading modimm_reading
family-short ThreeSame hw1 hw2 address = same3-short _ _ _ _ _ _ address (omega arith) (omega arith) (omega arith)
family-short ThreeDifferent hw1 hw2 address = diff-short _ _ _ _ _ _ address (omega arith) (omega arith) (omega arith)
family-short Shift hw1 hw2 address = shift_short _ _ _ _ _ _ _ _ address (omega arith) (omega arith) (omega arith) (omega arith)
family-short ModifiedImmediate hw1 hw2 address = modimm-short _ _ _ _ _ address (omega arith) (omega arith) (omega arith) (omega arith)
family-short NoFamily hw1 hw2 address = refusal-short 1 (omega arith)

pub line-short : (i hw1 hw2 : ℕ) → i < 10 ^ 5 → length (line_text i hw1 hw2) ≤ 54
unfolding line_text hex4 reading Short
line-short i hw1 hw2 h =
    omega (
      arith,
      within 4 i h,
      family-short (family_of hw1 hw2) hw1 hw2 0,
      length-append (decimal i ++ 32 ∷ hex4 hw1 ++ 32 ∷ hex4 hw2) (32 ∷ reading_text (reading hw1 hw2 0)),
      length-append (decimal i ++ 32 ∷ hex4 hw1) (32 ∷ hex4 hw2),
      length-append (decimal i) (32 ∷ hex4 hw1),
    )
