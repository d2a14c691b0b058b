-- A place op:cmode:imm8 by its row: its name, and what it leaves.
-- Assumes nothing.
use mathlib.Core.Path.{◌≡◌, refl, sym, ap, ◌∙◌}
use mathlib.Core.Bool.{Bool, true, false, not}
use Prim.Native.Nat.{ℕ, ◌-◌, ◌/◌, ◌%◌, ◌^◌, ◌<◌}
use native.Mathlib.Omega.{arith}
use lib.Dec.{eqb, ltb}
use borrow.Author.Tests.{eqb-true, eq-eqb}
use Rattle.laws.specs.Answer.{Answer, accepted, refused}
use Rattle.laws.specs.Choice.{choose, both}
use Rattle.laws.proofs.Range.{values, agree}
use Rattle.laws.proofs.Never.{wrong}
use Rattle.laws.proofs.Tests.{both_true, not-holds}
use Rattle.tables.specs.Cells.{cell_at}
use Rattle.immediate_tables.specs.Modimm.{modimm}
use Rattle.tables.proofs.Cells.{cell16}
use Rattle.fields.specs.Halfwords.{bit, field}
use Rattle.immediates.specs.Modified.{constant_at, expand_imm, zero_refused}
use Rattle.immediates.proofs.Defined.{is_undefined, not-refused}
use Rattle.one_pair.specs.One.{begins, setting, leaves, is_left, is_one, one_at}
use Rattle.one_pair.specs.Own.{turned}

-- what it is for a cell with imm8 to leave v
pub record One (v op cmode imm8 : ℕ) : Type 0 where
  pub named : setting (cell_at modimm op cmode) ≡ true
  pub zero : zero_refused cmode imm8 ≡ false
  pub pattern : ℕ
  pub expanded : expand_imm op cmode imm8 ≡ accepted pattern
  pub left : leaves (cell_at modimm op cmode) pattern ≡ v

module _ (v o c b : ℕ) where
  pub says : is_one v o c b ≡ true → One v o c b
  unfolding is_one
  says e =
      let x = both_true (setting (cell_at modimm o c)) _ e in
      let y = both_true (not (zero_refused c b)) _ x.1 in
      go (expand_imm o c b) refl x.0 (not-holds _ y.0) y.1
    where
      go : (x : Answer ℕ) → expand_imm o c b ≡ x → setting (cell_at modimm o c) ≡ true → zero_refused c b ≡ false
          → is_left (cell_at modimm o c) x v ≡ true → One v o c b
      go (accepted p) x n z l = record { named = n; zero = z; pattern = p; expanded = x; left = eqb-true (leaves (cell_at modimm o c) p) v l }
      go (refused k) x n z l = wrong l

  pub holds : One v o c b → is_one v o c b ≡ true
  unfolding is_one
  holds one = rw (one.named, one.zero, one.expanded) (eq-eqb (leaves (cell_at modimm o c) one.pattern) v one.left)

-- the names, by their row
abbrev pub sets : ℕ → Bool
sets k = choose (ltb (k % 16) 12) (eqb (k % 2) 0) (ltb k 31)

pub sets-row : (k : ℕ) → k < 32 → sets k ≡ setting (cell16 modimm k)
unfolding values modimm
sets-row = agree sets (λ (k : ℕ). setting (cell16 modimm k)) 32 refl

turned-row : (k : ℕ) → k < 32 → both (setting (cell16 modimm k)) (begins (cell16 modimm k) "vmvn") ≡ both (setting (cell16 modimm k)) (choose (ltb k 16) false (not (eqb k 30)))
unfolding values modimm
turned-row =
    agree (λ (k : ℕ). both (setting (cell16 modimm k)) (begins (cell16 modimm k) "vmvn"))
    (λ (k : ℕ). both (setting (cell16 modimm k)) (choose (ltb k 16) false (not (eqb k 30)))) 32 refl

pub leaves-row : (k p : ℕ) → k < 32 → setting (cell16 modimm k) ≡ true → leaves (cell16 modimm k) p ≡ turned k p
leaves-row k p h e = ap (λ (b : Bool). choose b (2 ^ 64 - 1 - p) p) (rw e at (turned-row k h)) ∙ go (ltb k 16) (eqb k 30)
  where
    go : (a b : Bool) → choose (choose a false (not b)) (2 ^ 64 - 1 - p) p ≡ choose a p (choose b p (2 ^ 64 - 1 - p))
    go true b = refl
    go false true = refl
    go false false = refl

-- a row that sets has a pattern
abbrev pub plain : Answer ℕ → ℕ
plain (accepted p) = p
plain (refused n) = 0

set-defined : (k : ℕ) → k < 32 → both (setting (cell16 modimm k)) (is_undefined (constant_at (k / 16) (k % 16))) ≡ false
unfolding values modimm constant_at
set-defined = agree (λ (k : ℕ). both (setting (cell16 modimm k)) (is_undefined (constant_at (k / 16) (k % 16)))) (λ (k : ℕ). false) 32 refl

defined : (k b n : ℕ) → k < 32 → setting (cell16 modimm k) ≡ true → expand_imm (k / 16) (k % 16) b ≡ refused n → ⊥
defined k b n h e = not-refused (constant_at (k / 16) (k % 16)) b n (rw e at (set-defined k h))

-- what a place leaves, and whether it is read, by its row
abbrev pub value : ℕ → ℕ
value t = turned (t / 256) (plain (expand_imm (t / 256 / 16) (t / 256 % 16) (t % 256)))

abbrev pub readable : ℕ → Bool
readable t = both (sets (t / 256)) (not (zero_refused (t / 256 % 16) (t % 256)))

module _ (v t : ℕ) (h : t < 8192) where
  abbrev k : ℕ
  k = t / 256

  small : k < 32
  small = omega arith

  -- a place by its row and its imm8
  pub by_row : one_at v t ≡ is_one v (k / 16) (k % 16) (t % 256)
  by_row =
      let top : bit 12 t ≡ k / 16 = omega arith in
      let low : field 7 0 t ≡ t % 256 = omega arith in
      rw (top, low)

  pub its-row : one_at v t ≡ true → (readable t ≡ true) × (value t ≡ v)
  its-row e =
      let one = says v (k / 16) (k % 16) (t % 256) (sym by_row ∙ e) in (
        rw (sets-row k small ∙ one.named, one.zero),
        ap (λ (x : Answer ℕ). turned k (plain x)) one.expanded ∙ sym (leaves-row k one.pattern small one.named) ∙ one.left,
      )

  pub of_row : readable t ≡ true → value t ≡ v → one_at v t ≡ true
  of_row r e =
      let x = both_true (sets k) _ r in
      by_row ∙ holds v (k / 16) (k % 16) (t % 256) (go (expand_imm (k / 16) (k % 16) (t % 256)) refl (sym (sets-row k small) ∙ x.0) (not-holds _ x.1))
    where
      go : (x : Answer ℕ) → expand_imm (k / 16) (k % 16) (t % 256) ≡ x → setting (cell16 modimm k) ≡ true → zero_refused (k % 16) (t % 256) ≡ false
          → One v (k / 16) (k % 16) (t % 256)
      go (accepted p) x n z =
          record {
            named = n;
            zero = z;
            pattern = p;
            expanded = x;
            left = leaves-row k p small n ∙ ap (λ (x : Answer ℕ). turned k (plain x)) (sym x) ∙ e;
          }
      go (refused m) x n z = absurd (defined k (t % 256) m small n x)
