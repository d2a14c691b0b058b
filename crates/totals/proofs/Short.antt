-- How long the line of totals is: of fewer than 100000 sorts, at most 57 bytes.
-- Assumes nothing.
use mathlib.Core.List.{List, ◌++◌}
use Prim.Native.Nat.{ℕ, ◌+◌, ◌^◌, ◌<◌, ◌≤◌}
use Prim.Native.String.{String}
use native.Mathlib.Omega.{arith}
use lib.ListN.{length, length-append}
use Rattle.names.specs.Names.{codes}
use Rattle.text.specs.Text.{decimal}
use Rattle.text.proofs.Decimal.{within}
use Rattle.totals.specs.declared.Sort.{Sort}
use Rattle.totals.specs.declared.Sort.TheVariants.{Same, Diff, Shifted, Imm, Refused}
use Rattle.totals.specs.Totals.{count, worded, totals_text}
use Rattle.totals.proofs.Counts.{all-counted}

worded-short : (word : String) (n : ℕ) → n < 10 ^ 5 → length (worded word n) ≤ length (codes word) + 5
worded-short word n h = omega (arith, length-append (codes word) (decimal n), within 4 n h)

pub totals-short : (sorts : List Sort) → length sorts < 10 ^ 5 → length (totals_text (λ (s : Sort). count s sorts)) ≤ 57
unfolding totals_text codes
totals-short sorts h =
    let a = count Same sorts in
    let b = count Diff sorts in
    let c = count Shifted sorts in
    let d = count Imm sorts in
    let e = count Refused sorts in
    let k = all-counted sorts in
    omega (
      arith,
      worded-short "same " a (omega (arith, k)),
      worded-short " diff " b (omega (arith, k)),
      worded-short " shift " c (omega (arith, k)),
      worded-short " imm " d (omega (arith, k)),
      worded-short " refused " e (omega (arith, k)),
      length-append (worded "same " a ++ worded " diff " b ++ worded " shift " c ++ worded " imm " d) (worded " refused " e),
      length-append (worded "same " a ++ worded " diff " b ++ worded " shift " c) (worded " imm " d),
      length-append (worded "same " a ++ worded " diff " b) (worded " shift " c),
      length-append (worded "same " a) (worded " diff " b),
    )
