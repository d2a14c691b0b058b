-- The promises of specs/Promises.antt.
-- Assumes nothing.
use mathlib.Core.Path.{◌≡◌, refl, sym, ap, ◌∙◌}
use mathlib.Core.Bool.{Bool, true, false}
use mathlib.Core.List.{List, [], ◌∷◌, map}
use Prim.Native.Nat.{ℕ, zero, suc, ◌<◌}
use Prim.Native.String.{String}
use lib.Dec.{ltb, leb}
use lib.ListN.{length}
use lib.Text.{eqt}
use borrow.Author.Tests.{ltb-true, ltb-false}
use Rattle.laws.proofs.Range.{values, agree}
use Rattle.laws.specs.Choice.{choose, both}
use Rattle.laws.proofs.Never.{wrong}
use Rattle.laws.proofs.Tests.{both_true}
use Rattle.names.specs.Names.{member, name_of}
use Rattle.names.proofs.Spellings.{no_name}
use Rattle.insn.specs.declared.Width.{Width}
use Rattle.insn.specs.Widths.{bits_of}
use Rattle.forms.specs.declared.Direction.{Direction}
use Rattle.forms.specs.declared.Direction.TheVariants as way
use Rattle.forms.specs.declared.Form.{Form}
use Rattle.forms.specs.declared.Form.TheVariants.{Lanes, Bits, Copy, Shift, Double, Extend, Number, Float, Nothing}
use Rattle.forms.specs.Forms.{NamedForm, groups, named_forms, form_in, form_of}
use Rattle.forms.specs.Promises as promises
use Rattle.forms.specs.Promises.{count_below, has_form, ListedForm, ListedCounted}
use Rattle.forms.proofs.Numbered.{numbered, form_at, form-at, blank}

-- every form in the list is one
all_formed : List NamedForm → Bool
all_formed [] = true
all_formed (x ∷ xs) = both (has_form x.form) (all_formed xs)

all-formed : all_formed named_forms ≡ true
unfolding groups named_forms all_formed
all-formed = refl

-- so that a name has one exactly if it stands there
formed-in : (s : String) (xs : List NamedForm) → all_formed xs ≡ true → has_form (form_in s xs) ≡ member s (map (λ (x : NamedForm). x.name) xs)
unfolding all_formed
formed-in s [] h = refl
formed-in s (x ∷ xs) h =
    let k = both_true (has_form x.form) (all_formed xs) h in
    either (eqt x.name s) x.form (form_in s xs) (member s (map (λ (x : NamedForm). x.name) xs)) k.0 (formed-in s xs k.1)
  where
    either : (b : Bool) (f g : Form) (t : Bool) → has_form f ≡ true → has_form g ≡ t → has_form (choose b f g) ≡ choose b true t
    either true f g t p q = p
    either false f g t p q = q

pub listed_form : ListedForm
unfolding form_of
listed_form m = formed-in (name_of m) named_forms all-formed

-- numbers that are told apart alike are counted alike
count_same : (p q : ℕ → Bool) → ((k : ℕ) → p k ≡ q k) → (n : ℕ) → count_below p n ≡ count_below q n
count_same p q h zero = refl
count_same p q h (suc n) = rw (h n, count_same p q h n)

counted : count_below (λ (m : ℕ). has_form (form_at m)) 346 ≡ 176
unfolding numbered form_at
counted = refl

names-counted : length named_forms ≡ 176
unfolding groups named_forms
names-counted = refl

pub listed_counted : ListedCounted
listed_counted =
    (names-counted, count_same promises.listed (λ (m : ℕ). has_form (form_at m)) (λ m. sym (listed_form m) ∙ ap has_form (form-at m)) 346 ∙ counted)

-- a name that is not listed has none
pub no-form : (m : ℕ) → promises.listed m ≡ false → form_of (name_of m) ≡ Nothing
no-form m e = go (form_of (name_of m)) (listed_form m ∙ e)
  where
    go : (f : Form) → has_form f ≡ false → f ≡ Nothing
    go (Lanes op w) h = wrong (sym h)
    go (Bits op) h = wrong (sym h)
    go Copy h = wrong (sym h)
    go (Shift way w) h = wrong (sym h)
    go (Double op w) h = wrong (sym h)
    go (Extend s w) h = wrong (sym h)
    go (Number op w) h = wrong (sym h)
    go Float h = wrong (sym h)
    go Nothing h = refl

-- a name whose lanes are of unlike width has at most 32 bits in the shorter ones
abbrev pub shift_to32 : Direction → Width → Bool
shift_to32 way.Left w = true
shift_to32 (way.Right s) w = true
shift_to32 (way.Long s) w = leb (bits_of w) 32
shift_to32 way.Narrow w = leb (bits_of w) 32

abbrev pub form_to32 : Form → Bool
form_to32 (Double op w) = leb (bits_of w) 32
form_to32 (Extend s w) = leb (bits_of w) 32
form_to32 (Shift way w) = shift_to32 way w
form_to32 (Lanes op w) = true
form_to32 (Bits op) = true
form_to32 Copy = true
form_to32 (Number op w) = true
form_to32 Float = true
form_to32 Nothing = true

to32-below : (m : ℕ) → m < 346 → form_to32 (form_at m) ≡ true
unfolding values numbered form_at
to32-below = agree (λ (m : ℕ). form_to32 (form_at m)) (λ (m : ℕ). true) 346 refl

pub all-to32 : (m : ℕ) → form_to32 (form_of (name_of m)) ≡ true
all-to32 m = go (ltb m 346) refl
  where
    go : (b : Bool) → ltb m 346 ≡ b → form_to32 (form_of (name_of m)) ≡ true
    go true e = ap form_to32 (form-at m) ∙ to32-below m (ltb-true m 346 e)
    go false e = ap (λ (s : String). form_to32 (form_of s)) (no_name m (ltb-false m 346 e)) ∙ ap form_to32 blank
