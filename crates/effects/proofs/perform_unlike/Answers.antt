use mathlib.Core.Path.{◌≡◌, sym, ap, ◌∙◌}
use mathlib.Core.Bool.{Bool, true, false}
use Prim.Native.Nat.{ℕ, ◌+◌, ◌*◌, ◌^◌, ◌<◌}
use native.Mathlib.Omega.{arith}
use borrow.Author.Rules.{rules}
use Rattle.insn.specs.declared.Width.{Width}
use Rattle.laws.proofs.Never.{wrong}
use Rattle.tables.specs.declared.lengths.Lengths.{Lengths}
use Rattle.double_lanes.specs.declared.DoubleOp.{DoubleOp}
use Rattle.double_lanes.specs.Double.{lengths_of, lane_bits}
use Rattle.double_lanes.proofs.Promises.{half_below}
use Rattle.meanings.specs.declared.Numbers.{Numbers}
use Rattle.effects.specs.File.{File, Good}
use Rattle.effects.specs.Halves.{half_after}
use Rattle.effects.proofs.Effects.{quad-target-stored, word-target-stored}
use Rattle.effects.proofs.perform_unlike.Goals as goal

-- whether the target is a quadword
target_is : (l m : Lengths) (t : Bool) → l ≡ m → l.d ≡ t → m.d ≡ t
target_is l m t k e = ap (λ (l : Lengths). l.d) (sym k) ∙ e

-- a half of a doubleword has 32 bits
below : (q : Bool) (x : ℕ) → x < 2 ^ lane_bits q 32 → q ≡ false → x < 2 ^ 32
below true x h e = wrong (sym e)
below false x h e = h

half-fits : (op : DoubleOp) (w : Width) (r : Numbers) (file : File) (l : Lengths) (h x : ℕ) → x ≡ half_after op w r file h
    → l ≡ lengths_of op → l.d ≡ false → x < 2 ^ 32
half-fits op w r file l h x e k q = below (lengths_of op).d x (rw e (half_below op w _ _ _)) (target_is _ _ false k q)

pub overflow_mul-after : goal.overflow_mul-after
overflow_mul-after c =
    let a = c.args in
    let low = half-fits a.op a.w a.r a.before.file _ 0 _ c.half_after-low.ensures c.lengths_of-l.ensures c.if-l.false in
    let high = half-fits a.op a.w a.r a.before.file _ 1 _ c.half_after-high.ensures c.lengths_of-l.ensures c.if-l.false in
    record { fits = omega (arith, low, high) }

pub overflow_add-after-else-l : goal.overflow_add-after-else-l
overflow_add-after-else-l c =
    let a = c.args in
    let low = half-fits a.op a.w a.r a.before.file _ 0 _ c.half_after-low.ensures c.lengths_of-l.ensures c.if-l.false in
    let high = half-fits a.op a.w a.r a.before.file _ 1 _ c.half_after-high.ensures c.lengths_of-l.ensures c.if-l.false in
    record { fits = omega (arith, low, high) }

pub returns-then-l-clause-file : goal.returns-then-l-clause-file
returns-then-l-clause-file c =
    let a = c.args in
    let g : Good a.before.file = record { size = search rules; small = search rules } in
    quad-target-stored a.op a.w a.r a.before.file c.requires.1 g _ _ c.half_after-low.ensures c.half_after-high.ensures
    (target_is _ _ true c.lengths_of-l.ensures c.if-l.true)

pub returns-else-l-clause-file : goal.returns-else-l-clause-file
returns-else-l-clause-file c =
    let a = c.args in
    let g : Good a.before.file = record { size = search rules; small = search rules } in
    word-target-stored a.op a.w a.r a.before.file c.requires.1 g _ _ c.half_after-low.ensures c.half_after-high.ensures
    (target_is _ _ false c.lengths_of-l.ensures c.if-l.false)
