-- What the answer of a table's cell says of the cell's spelling, by its row r and its column c.
-- Assumes nothing.
use mathlib.Core.Path.{◌≡◌, sym, ap, ◌∙◌}
use mathlib.Core.Bool.{true, false}
use mathlib.Core.List.{List}
use Prim.Native.Nat.{ℕ, ◌+◌, ◌*◌, ◌/◌, ◌%◌, ◌<◌}
use Prim.Native.String.{String}
use native.Mathlib.Omega.{arith}
use lib.Text.{eqt}
use Rattle.std.specs.Prelude.{Option, Some, None, Ok, Err, IfSome, ok_or}
use Rattle.laws.proofs.Never.{never}
use Rattle.names.specs.Names.{name_of, number_of}
use Rattle.names.proofs.Known.{named, unnamed}
use Rattle.tables.specs.Cells.{cell_at, cell_number}
use Rattle.tables.proofs.Cells.{flat-cell}

module _ (table : List (List String)) (w r c : ℕ) (h : c < w) (known : name_of (number_of (cell_at table r c)) ≡ cell_at table r c) where
  abbrev number : ℕ
  number = number_of (cell_at table ((r * w + c) / w) ((r * w + c) % w))

  here : number ≡ number_of (cell_at table r c)
  here = ap number_of (flat-cell table w r c h)

  spelled : eqt (name_of (number_of (cell_at table r c))) "" ≡ eqt (cell_at table r c) ""
  spelled = ap (λ (s : String). eqt s "") known

  -- a cell without a mnemonic is blank
  pub blank_cell : {E : Type 0} (x : Option ℕ) (e : E) {f : E} → cell_number x ≡ number → Err f ≡ ok_or x e
      → (eqt (cell_at table r c) "" ≡ true) × (f ≡ e)
  blank_cell None e same is = (sym spelled ∙ unnamed _ (let k = here in omega arith), cc)
  blank_cell (Some m) e same is = never (cc)

  -- the mnemonic of any other cell is its spelling's
  pub full_cell : {E : Type 0} (x : Option ℕ) (e : E) {m : ℕ} → cell_number x ≡ number → IfSome x (λ n. n < 346) → Ok m ≡ ok_or x e
      → (eqt (cell_at table r c) "" ≡ false) × (number_of (cell_at table r c) ≡ m)
  full_cell None e same small is = never (cc)
  full_cell (Some n) e {m} same small is =
      let k = here in
      let i : n ≡ m = cc in
      (sym spelled ∙ named _ (omega arith), omega arith)
