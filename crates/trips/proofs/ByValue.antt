-- In every home a writing goes by the answer to the record's value, or is one answer, not 9, whatever that is.
-- Assumes nothing.
use mathlib.Core.Path.{◌≡◌, refl, sym, ap, ◌∙◌}
use mathlib.Core.Bool.{Bool, true, false}
use Prim.Native.Nat.{ℕ, ◌/◌, ◌<◌}
use Prim.Native.String.{String}
use lib.Dec.{eqb}
use lib.ListN.{get_or}
use lib.Text.{eqt}
use Rattle.laws.specs.Answer.{Answer, accepted, refused, and_then}
use Rattle.laws.specs.Choice.{choose, both}
use Rattle.laws.proofs.Never.{never, wrong}
use Rattle.insn.specs.declared.Operand.{Operand}
use Rattle.names.specs.Names.{name_of, pairwise}
use Rattle.tables.specs.Lengths.{class_lengths, shape_lengths}
use Rattle.tables.specs.declared.DiffShape.{DiffShape}
use Rattle.tables.specs.declared.DiffShape.TheVariants.{Long as long_shape}
use Rattle.tables.proofs.Cells.{cell4}
use Rattle.register_tables.specs.Diff.{diff_shapes}
use Rattle.immediate_tables.specs.Shift.{vmovl}
use Rattle.homes.specs.Home.{home_of}
use Rattle.homes.specs.declared.Home.{Home}
use Rattle.homes.specs.declared.Home.TheVariants.{Same3, Shift, Vmovl, Modimm, Diff, Vmov, Nowhere}
use Rattle.homes.proofs.Cells.{filled, class_at, vmovl-stands}
use Rattle.fields.specs.Halfwords.{field}
use Rattle.writings.specs.Forms.{Pair, is_quad, register_in, Three, all_three, numbers}
use Rattle.writings.proofs.Only.{RefusedOnly, register-eight}
use Rattle.amount_values.specs.Amounts.{amount_in}
use Rattle.immediate_values.specs.Immediates.{immediate_in}
use Rattle.write_registers.specs.Same3.{same3_form, same3_writing, vorr_cell, vmov_writing}
use Rattle.write_registers.specs.Diff.{diff_form, diff_shaped, diff_writing}
use Rattle.write_immediates.specs.Shift.{bit_b, shift_pair, shift_form, shift_classed, vshll_cell, vmovl_writing}
use Rattle.write_immediates.specs.Modimm.{modimm_pair, modimm_form, modimm_writing}
use Rattle.encode.specs.Writing.{in_home}
use Rattle.trips.proofs.Alike.{Alike, alike-quad, alike-register}
use Rattle.trips.proofs.Values.{is_refusal}
use Rattle.trips.proofs.Ones.{zero-amount}

-- the answer to the value of a record: the third operand of a shift, the second of a modified immediate;
-- no other home has a value, and its form does not look at the answer
abbrev pub value_in : Home → String → Operand → Operand → Answer ℕ
value_in (Same3 k) name b c = accepted 0
value_in (Shift k) name b c = amount_in (class_at k) (field 1 0 k) c
value_in (Vmovl k) name b c = accepted 0
value_in (Modimm k) name b c = immediate_in name b
value_in (Diff k) name b c = accepted 0
value_in Vmov name b c = accepted 0
value_in Nowhere name b c = accepted 0

abbrev shift_by : ℕ → ℕ → Operand → Operand → Answer ℕ → Answer Pair
shift_by k count a b value =
    choose (eqb count 3)
    (and_then (all_three (register_in (class_lengths (class_at k) (is_quad a)).d a) (register_in (class_lengths (class_at k) (is_quad a)).m b) value) (shift_form (class_at k) k (is_quad a)))
    (refused 8)

-- what a home makes of that answer
abbrev pub form_in : Home → String → ℕ → Operand → Operand → Operand → Answer ℕ → Answer Pair
form_in (Same3 k) name count a b c value = same3_writing k name count a b c
form_in (Shift k) name count a b c value = shift_by k count a b value
form_in (Vmovl k) name count a b c value = vmovl_writing k count a b
form_in (Modimm k) name count a b c value = choose (eqb count 2) (modimm_form (is_quad a) (register_in (is_quad a) a) value) (refused 8)
form_in (Diff k) name count a b c value = diff_writing k count a b c
form_in Vmov name count a b c value = vmov_writing count a b
form_in Nowhere name count a b c value = refused 7

pub in-form : (h : Home) (name : String) (count : ℕ) (a b c : Operand) → in_home h name count a b c ≡ form_in h name count a b c (value_in h name b c)
unfolding shift_classed modimm_writing
in-form (Same3 k) name count a b c = refl
in-form (Shift k) name count a b c = refl
in-form (Vmovl k) name count a b c = refl
in-form (Modimm k) name count a b c = refl
in-form (Diff k) name count a b c = refl
in-form Vmov name count a b c = refl
in-form Nowhere name count a b c = refl

-- the form is the same for operands that are alike
module _ (a b c a' b' c' : Operand) (aa : Alike a a') (bb : Alike b b') (cs : Alike c c') where
  same3-alike : (k : ℕ) (name : String) (count : ℕ) → same3_writing k name count a b c ≡ same3_writing k name count a' b' c'
  unfolding same3_writing
  same3-alike k name count =
      rw (alike-quad a a' aa, alike-register (is_quad a') a a' aa, alike-register (is_quad a') b b' bb, alike-register (is_quad a') c c' cs)

  shift-alike : (k count : ℕ) (value : Answer ℕ) → shift_by k count a b value ≡ shift_by k count a' b' value
  shift-alike k count value =
      rw (
        alike-quad a a' aa,
        alike-register (class_lengths (class_at k) (is_quad a')).d a a' aa,
        alike-register (class_lengths (class_at k) (is_quad a')).m b b' bb,
      )

  diff-alike : (shape : DiffShape) (k count : ℕ) → diff_shaped shape k count a b c ≡ diff_shaped shape k count a' b' c'
  unfolding diff_shaped
  diff-alike shape k count =
      rw (
        alike-register (shape_lengths shape).d a a' aa,
        alike-register (shape_lengths shape).n b b' bb,
        alike-register (shape_lengths shape).m c c' cs,
      )

-- two operands, or 8
abbrev of_two : ℕ → Answer Pair → Answer Pair
of_two count x = choose (eqb count 2) x (refused 8)

pub form-alike : (a b c a' b' c' : Operand) → Alike a a' → Alike b b' → Alike c c' → (h : Home) (name : String) (count : ℕ) (value : Answer ℕ)
    → form_in h name count a b c value ≡ form_in h name count a' b' c' value
unfolding vmov_writing vmovl_writing shift_classed
form-alike a b c a' b' c' aa bb cs (Same3 k) name count value = same3-alike a b c a' b' c' aa bb cs k name count
form-alike a b c a' b' c' aa bb cs (Shift k) name count value = shift-alike a b c a' b' c' aa bb cs k count value
form-alike a b c a' b' c' aa bb cs (Vmovl k) name count value = ap (of_two count) (shift-alike a b c a' b' c' aa bb cs (vshll_cell k) 3 _)
form-alike a b c a' b' c' aa bb cs (Modimm k) name count value = rw (alike-quad a a' aa, alike-register (is_quad a') a a' aa)
form-alike a b c a' b' c' aa bb cs (Diff k) name count value = diff-alike a b c a' b' c' aa bb cs (get_or diff_shapes (k / 4) long_shape) k count
form-alike a b c a' b' c' aa bb cs Vmov name count value = ap (of_two count) (same3-alike a b b a' b' b' aa bb bb vorr_cell "vorr" 3)
form-alike a b c a' b' c' aa bb cs Nowhere name count value = refl

-- a form that goes by the answer to the value, or regardless of it
pub data Through (form : Answer ℕ → Answer Pair) : Type 0 where
  goes_by : (f : ℕ → Pair) → ((t : ℕ) → form (accepted t) ≡ accepted (f t)) → ((n : ℕ) → form (refused n) ≡ refused n) → Through form
  regardless : (x : Answer Pair) → is_refusal 9 x ≡ false → ((value : Answer ℕ) → form value ≡ x) → Through form

-- what is taken is not refused with 9
taken-plain : (form : Answer ℕ → Answer Pair) → Through form → (t : ℕ) → is_refusal 9 (form (accepted t)) ≡ false
taken-plain form (goes_by f took lost) t = ap (is_refusal 9) (took t)
taken-plain form (regardless x plain all) t = ap (is_refusal 9) (all (accepted t)) ∙ plain

-- one value taken and another refused: it is the value that is refused
pub value-refused : (form : Answer ℕ → Answer Pair) → Through form → (v w : Answer ℕ) (p : Pair) (n : ℕ) → form w ≡ accepted p → form v ≡ refused n
    → ((t : ℕ) × (w ≡ accepted t)) × (v ≡ refused n)
value-refused form (goes_by f took lost) (accepted s) w p n e r = let q = took s in never (cc)
value-refused form (goes_by f took lost) (refused m) (accepted t) p n e r = let q = lost m in ((t, refl), ap refused (cc))
value-refused form (goes_by f took lost) (refused m) (refused k) p n e r = let q = lost k in never (cc)
value-refused form (regardless x plain all) v w p n e r = let q = all v in let s = all w in never (cc)

-- 9 is for the value, and any value that has a place is taken instead
pub value-nine : (form : Answer ℕ → Answer Pair) → Through form → (v : Answer ℕ) → form v ≡ refused 9
    → (v ≡ refused 9) × ((t : ℕ) → (p : Pair) × (form (accepted t) ≡ accepted p))
value-nine form (goes_by f took lost) (accepted s) r = let q = took s in never (cc)
value-nine form (goes_by f took lost) (refused m) r = let q = lost m in (ap refused (cc), λ t. (f t, took t))
value-nine form (regardless x plain all) v r = wrong (sym plain ∙ ap (is_refusal 9) (sym (all v) ∙ r))

shift-through : (k : ℕ) (t quad : Bool) (x y : Answer ℕ) → RefusedOnly 8 x → RefusedOnly 8 y
    → Through (λ value. choose t (and_then (all_three x y value) (shift_form (class_at k) k quad)) (refused 8))
unfolding all_three
shift-through k true quad (accepted d) (accepted m) ex ey =
    goes_by (λ amount. shift_pair k (bit_b (class_at k) quad k) amount d m) (λ amount. refl) (λ n. refl)
shift-through k true quad (accepted d) (refused n) ex ey = regardless (refused 8) refl (λ value. ap refused ey)
shift-through k true quad (refused n) y ex ey = regardless (refused 8) refl (λ value. ap refused ex)
shift-through k false quad x y ex ey = regardless (refused 8) refl (λ value. refl)

shifted-through : (k count : ℕ) (a b : Operand) → Through (shift_by k count a b)
shifted-through k count a b =
    shift-through k (eqb count 3) (is_quad a) _ _
    (register-eight (class_lengths (class_at k) (is_quad a)).d a) (register-eight (class_lengths (class_at k) (is_quad a)).m b)

modimm-through : (t quad : Bool) (x : Answer ℕ) → RefusedOnly 8 x → Through (λ value. choose t (modimm_form quad x value) (refused 8))
modimm-through true quad (accepted d) ex = goes_by (λ immediate. modimm_pair immediate quad d) (λ immediate. refl) (λ n. refl)
modimm-through true quad (refused n) ex = regardless (refused 8) refl (λ value. ap refused ex)
modimm-through false quad x ex = regardless (refused 8) refl (λ value. refl)

-- three registers are never refused with 9
registers-plain : (t : Bool) (x y z : Answer ℕ) (f : Three → Answer Pair) → RefusedOnly 8 x → RefusedOnly 8 y → RefusedOnly 8 z → ((r : Three) → is_refusal 9 (f r) ≡ false)
    → is_refusal 9 (choose t (and_then (all_three x y z) f) (refused 8)) ≡ false
unfolding all_three
registers-plain true (accepted a) (accepted b) (accepted c) f ex ey ez plain = plain (numbers a b c)
registers-plain true (accepted a) (accepted b) (refused n) f ex ey ez plain = ap (λ (k : ℕ). eqb k 9) ez
registers-plain true (accepted a) (refused n) z f ex ey ez plain = ap (λ (k : ℕ). eqb k 9) ey
registers-plain true (refused n) y z f ex ey ez plain = ap (λ (k : ℕ). eqb k 9) ex
registers-plain false x y z f ex ey ez plain = refl

same3-plain : (cell : ℕ) (name : String) (count : ℕ) (a b c : Operand) → is_refusal 9 (same3_writing cell name count a b c) ≡ false
unfolding same3_writing same3_form
same3-plain cell name count a b c =
    registers-plain (eqb count 3) _ _ _ (same3_form cell name (is_quad a)) (register-eight (is_quad a) a) (register-eight (is_quad a) b) (register-eight (is_quad a) c) form
  where
    five : (t : Bool) (p : Pair) → is_refusal 9 (choose t (refused 5) (accepted p)) ≡ false
    five true p = refl
    five false p = refl

    form : (r : Three) → is_refusal 9 (same3_form cell name (is_quad a) r) ≡ false
    form (numbers x y z) = five (both (is_quad a) (pairwise name)) _

diff-plain : (shape : DiffShape) (cell count : ℕ) (a b c : Operand) → is_refusal 9 (diff_shaped shape cell count a b c) ≡ false
unfolding diff_shaped
diff-plain shape cell count a b c =
    registers-plain (eqb count 3) _ _ _ (diff_form cell) (register-eight (shape_lengths shape).d a) (register-eight (shape_lengths shape).n b) (register-eight (shape_lengths shape).m c) form
  where
    form : (r : Three) → is_refusal 9 (diff_form cell r) ≡ false
    form (numbers x y z) = refl

two-plain : (count : ℕ) (x : Answer Pair) → is_refusal 9 x ≡ false → is_refusal 9 (of_two count x) ≡ false
two-plain count x e = go (eqb count 2)
  where
    go : (t : Bool) → is_refusal 9 (choose t x (refused 8)) ≡ false
    go true = e
    go false = refl

vmovl-plain : (k count : ℕ) (a b : Operand) → k < 8 → eqt (cell4 vmovl k) "" ≡ false → is_refusal 9 (vmovl_writing k count a b) ≡ false
unfolding vmovl_writing shift_classed
vmovl-plain k count a b h e =
    let zero = zero-amount k h e in
    two-plain count _ (rw zero.1 (taken-plain _ (shifted-through (vshll_cell k) 3 a b) zero.0))

vmov-plain : (count : ℕ) (a b : Operand) → is_refusal 9 (vmov_writing count a b) ≡ false
unfolding vmov_writing
vmov-plain count a b = two-plain count _ (same3-plain vorr_cell "vorr" 3 a b b)

-- every home's form
pub through : (m : ℕ) (number : Bool) (h : Home) → home_of (name_of m) number ≡ h → (count : ℕ) (a b c : Operand) → Through (form_in h (name_of m) count a b c)
through m number (Same3 k) e count a b c =
    regardless (same3_writing k (name_of m) count a b c) (same3-plain k (name_of m) count a b c) (λ value. refl)
through m number (Shift k) e count a b c = shifted-through k count a b
through m number (Vmovl k) e count a b c =
    let st = vmovl-stands number m k e in
    regardless (vmovl_writing k count a b) (vmovl-plain k count a b st.within (filled st)) (λ value. refl)
through m number (Modimm k) e count a b c = modimm-through (eqb count 2) (is_quad a) (register_in (is_quad a) a) (register-eight (is_quad a) a)
through m number (Diff k) e count a b c =
    regardless (diff_writing k count a b c) (diff-plain (get_or diff_shapes (k / 4) long_shape) k count a b c) (λ value. refl)
through m number Vmov e count a b c = regardless (vmov_writing count a b) (vmov-plain count a b) (λ value. refl)
through m number Nowhere e count a b c = regardless (refused 7) refl (λ value. refl)
