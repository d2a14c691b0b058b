use Rattle.std.proofs.Common.{◌≡◌, ℕ, ◌+◌, ◌-◌, ◌%◌, ◌^◌, sym, ap, ◌∙◌, arith}
use Rattle.arithmetic.proofs.Numbers.{cut64}
use Rattle.arithmetic.proofs.Signs.{minus-of}
use Rattle.arithmetic.proofs.arith.Bits.difference.Goals as goal

pub returns : goal.returns
returns c =
    let a = c.args in
    let w = a.self.count in
    let r = (a.x + (2 ^ 64 - a.y)) % 2 ^ 64 in
    let e : (r + a.y) % 2 ^ 64 ≡ a.x = omega arith in
    c.cut.ensures ∙ minus-of w a.x a.y r (sym (cut64 (r + a.y) w (omega arith)) ∙ ap (λ (n : ℕ). n % 2 ^ w) e)
