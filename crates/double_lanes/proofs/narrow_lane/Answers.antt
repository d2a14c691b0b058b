use mathlib.Core.Path.{◌≡◌, ◌∙◌, ap}
use Prim.Native.Nat.{ℕ, ◌+◌, ◌*◌, ◌%◌, ◌^◌}
use lib.IntN.{pos, ◌+ℤ◌, ◌-ℤ◌}
use lib.Signed.{shr_z}
use Rattle.laws.specs.Signed.{modulo}
use Rattle.double_lanes.proofs.Doubles.{high-kept}
use Rattle.double_lanes.proofs.narrow_lane.Goals as goal

-- a sum of 2w bits
summed : (w v n m r : ℕ) → v ≡ 2 * w → r ≡ (n + m) % 2 ^ v → r ≡ modulo (2 * w) (pos n +ℤ pos m)
unfolding modulo
summed w v n m r e h = rw (← e) h

pub returns-in-Add : goal.returns-in-Add
returns-in-Add c =
    let a = c.args in
    let w = a.w.single.count in
    let e = summed w a.w.double.count a.n a.m c.sum.result a.w.twice c.sum.ensures in
    rw c.in-Add.is (c.kept-in-Add.ensures ∙ ap (λ (x : ℕ). modulo w (shr_z (pos x) (2 ^ w))) e ∙ high-kept w (pos a.n +ℤ pos a.m))

pub returns-in-Sub : goal.returns-in-Sub
returns-in-Sub c =
    let a = c.args in
    let w = a.w.single.count in
    let e = rw a.w.twice at c.difference.ensures in
    rw c.in-Sub.is (c.kept-in-Sub.ensures ∙ ap (λ (x : ℕ). modulo w (shr_z (pos x) (2 ^ w))) e ∙ high-kept w (pos a.n -ℤ pos a.m))
