-- Each formula of the code is what table A7-15 gives, at every op, cmode and imm8: antt computes them all.
-- Assumes nothing.
use mathlib.Core.Path.{◌≡◌, refl, ap, ◌∙◌}
use mathlib.Core.Bool.{Bool, true, false}
use mathlib.Core.List.{[]}
use Prim.Native.Nat.{ℕ, ◌+◌, ◌*◌, ◌/◌, ◌%◌, ◌^◌, ◌<◌, ◌≤◌}
use native.Mathlib.Omega.{arith}
use lib.Dec.{eqb, ltb}
use lib.IntN.{pos}
use lib.ListN.{get_or, get_or-eq_default}
use borrow.Author.Tests.{ltb-true, eqb-true, eqb-false, eq-eqb, ne_eqb}
use Rattle.laws.specs.Answer.{accepted}
use Rattle.laws.specs.Choice.{choose}
use Rattle.laws.proofs.Range.{values, agree, agree2}
use Rattle.insn.specs.declared.Operand.TheVariants.{Imm}
use Rattle.immediates.specs.Modified.{undefined, a7-15, constant_at, element, bytes_of, pattern_in, operand_in, expand_imm, modimm_operand}

-- the code's sum of bits
pub bytes : (b : ℕ) → b < 256
    → 255 * (b % 2 + b / 2 % 2 * 0x100 + b / 4 % 2 * 0x1_0000 + b / 8 % 2 * 0x100_0000 + b / 16 % 2 * 0x1_0000_0000 + b / 32 % 2 * 0x100_0000_0000 + b / 64 % 2 * 0x1_0000_0000_0000 + b / 128 % 2 * 0x100_0000_0000_0000)
    ≡ bytes_of 8 b
unfolding values
bytes =
    agree
    (λ (b : ℕ). 255 * (b % 2 + b / 2 % 2 * 0x100 + b / 4 % 2 * 0x1_0000 + b / 8 % 2 * 0x100_0000 + b / 16 % 2 * 0x1_0000_0000 + b / 32 % 2 * 0x100_0000_0000 + b / 64 % 2 * 0x1_0000_0000_0000 + b / 128 % 2 * 0x100_0000_0000_0000))
    (bytes_of 8) 256 refl

-- a row past the table is undefined, and so is a column
pub no-op : (op cmode : ℕ) → 2 ≤ op → constant_at op cmode ≡ undefined
unfolding constant_at
no-op op cmode h = rw (get_or-eq_default a7-15 [] {n = op} h)

pub no-cmode : (cmode : ℕ) → 16 ≤ cmode → constant_at 0 cmode ≡ undefined
unfolding constant_at
no-cmode cmode h = get_or-eq_default (get_or a7-15 0 []) undefined {n = cmode} h

pub no_last : (cmode : ℕ) → 15 ≤ cmode → constant_at 1 cmode ≡ undefined
unfolding constant_at
no_last cmode h = go (eqb cmode 15) refl
  where
    go : (b : Bool) → eqb cmode 15 ≡ b → constant_at 1 cmode ≡ undefined
    go true e = rw (eqb-true cmode 15 e)
    go false e =
        let ne = eqb-false cmode 15 e in
        get_or-eq_default (get_or a7-15 1 []) undefined {n = cmode} (omega arith)

-- below cmode 14 op changes nothing
pub either : (cmode : ℕ) → cmode < 14 → constant_at 0 cmode ≡ constant_at 1 cmode
unfolding values constant_at
either = agree (constant_at 0) (constant_at 1) 14 refl

-- what fills 64 bits with it
abbrev pub filled : ℕ → ℕ → ℕ
filled cmode e =
    choose (eqb cmode 14) (e * 0x101_0101_0101_0101)
    (choose (eqb (cmode / 4) 2) (e * 0x1_0001_0001_0001)
    (e * 0x1_0000_0001))

pub row-pattern : (cmode b p : ℕ) → cmode < 16 → b < 256 → p ≡ filled cmode (element (constant_at 0 cmode) b) → accepted p ≡ expand_imm 0 cmode b
unfolding values constant_at element pattern_in
row-pattern cmode b p h l e =
    ap accepted e
    ∙ agree2 (λ (c b : ℕ). accepted (filled c (element (constant_at 0 c) b))) (expand_imm 0) 16 256 refl cmode b h l

-- an element of so many bits
limit : ℕ → ℕ
limit cmode = choose (eqb cmode 14) (2 ^ 8) (choose (eqb (cmode / 4) 2) (2 ^ 16) (2 ^ 32))

within-limit : (cmode b : ℕ) → cmode < 16 → b < 256 → element (constant_at 0 cmode) b < limit cmode
unfolding values constant_at element limit
within-limit cmode b h l =
    ltb-true (element (constant_at 0 cmode) b) (limit cmode)
    (agree2 (λ (c b : ℕ). ltb (element (constant_at 0 c) b) (limit c)) (λ (c b : ℕ). true) 16 256 refl cmode b h l)

pub byte-element : (cmode b : ℕ) → b < 256 → cmode ≡ 14 → element (constant_at 0 cmode) b < 2 ^ 8
unfolding limit
byte-element cmode b l e = rw (eq-eqb cmode 14 e) at (within-limit cmode b (omega arith) l)

pub halfword-element : (cmode b : ℕ) → b < 256 → cmode / 4 ≡ 2 → element (constant_at 0 cmode) b < 2 ^ 16
unfolding limit
halfword-element cmode b l e =
    rw (ne_eqb cmode 14 (λ k. omega arith), eq-eqb (cmode / 4) 2 e) at (within-limit cmode b (omega arith) l)

-- the operand of a row with op 0
pub row-operand : (cmode b : ℕ) → cmode < 15 → b < 256 → Imm (pos (element (constant_at 0 cmode) b)) ≡ modimm_operand 0 cmode b
unfolding values constant_at element operand_in
row-operand cmode b h l = agree2 (λ (c b : ℕ). Imm (pos (element (constant_at 0 c) b))) (modimm_operand 0) 15 256 refl cmode b h l
