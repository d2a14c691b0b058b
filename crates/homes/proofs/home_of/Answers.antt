use mathlib.Core.Path.{◌∙◌}
use native.Mathlib.Omega.{arith}
use Rattle.homes.proofs.Places.{same-below, same-between, same_above, vqshl-signed, vqshl-unsigned}
use Rattle.homes.proofs.home_of.Goals as goal
use Rattle.homes.proofs.home_of.Goals.{in_default-via-then-m-lt31, in_default-via-in-31-to-34+else-number, in_default-via-else-m-lt31+else-m-lt35+then-m-lt121, in_default-via-in-121-to-124+else-number-2, in_default-via-else-m-lt31+else-m-lt35+else-m-lt121+else-m-lt125}

pub returns-in-31-to-34 : goal.returns-in-31-to-34
returns-in-31-to-34 c = rw c.if-number.true (vqshl-signed _ (omega arith) (omega arith))

pub returns-in-121-to-124 : goal.returns-in-121-to-124
returns-in-121-to-124 c = rw c.if-number-2.true (vqshl-unsigned _ (omega arith) (omega arith))

pub returns-in_default : goal.returns-in_default
returns-in_default c =
    c.plain_home.ensures
    ∙ elim c.in_default.branch [
      | in_default-via-then-m-lt31 w ↦ same-below c.args.number c.args.m (omega arith)
      | in_default-via-in-31-to-34+else-number w ↦ rw w.if-number.false
      | in_default-via-else-m-lt31+else-m-lt35+then-m-lt121 w ↦ same-between c.args.number c.args.m (omega arith) (omega arith)
      | in_default-via-in-121-to-124+else-number-2 w ↦ rw w.if-number-2.false
      | in_default-via-else-m-lt31+else-m-lt35+else-m-lt121+else-m-lt125 w ↦ same_above c.args.number c.args.m (omega arith)
    ]
