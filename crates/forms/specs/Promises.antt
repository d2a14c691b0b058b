-- Promises beyond the contracts; proofs/Promises.antt proves each under its name.
-- Assumes nothing.
use Rattle.std.specs.Prelude.{Bool, true, false, map, ◌≡◌, ℕ, zero, suc, ◌+◌, length}
use Rattle.laws.specs.Choice.{choose}
use Rattle.names.specs.Names.{member, name_of}
use Rattle.forms.specs.declared.Form.{Form}
use Rattle.forms.specs.declared.Form.TheVariants.{Lanes, Bits, Copy, Shift, Double, Extend, Number, Float, Nothing}
use Rattle.forms.specs.Forms.{NamedForm, named_forms, form_of}

-- the names with a meaning are 176 of the 346
abbrev pub listed : ℕ → Bool
listed m = member (name_of m) (map (λ (x : NamedForm). x.name) named_forms)

abbrev pub count_below : (ℕ → Bool) → ℕ → ℕ
count_below p zero = 0
count_below p (suc n) = choose (p n) 1 0 + count_below p n

abbrev pub ListedCounted : Type 0
ListedCounted = (length named_forms ≡ 176) × (count_below listed 346 ≡ 176)

-- and they are those that have a form
abbrev pub has_form : Form → Bool
has_form (Lanes op w) = true
has_form (Bits op) = true
has_form Copy = true
has_form (Shift way w) = true
has_form (Double op w) = true
has_form (Extend s w) = true
has_form (Number op w) = true
has_form Float = true
has_form Nothing = false

abbrev pub ListedForm : Type 0
ListedForm = (m : ℕ) → has_form (form_of (name_of m)) ≡ listed m
