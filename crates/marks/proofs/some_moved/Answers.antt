use Rattle.std.proofs.Common.{ℕ, ◌/◌, refl, ◌∙◌, arith, rules, tests}
use Rattle.std.proofs.lemmas.Iterator.{YieldsList-from_range}
use Rattle.std.proofs.lemmas.Iterator.Search.{any_from_yields_List}
use Rattle.lanes.specs.Promises.{lane_at}
use Rattle.marks.specs.Moved.{lane_moved, some_moved}
use Rattle.marks.proofs.Search.{some_listed}
use Rattle.marks.proofs.some_moved.Goals as goal

pub returns : goal.returns
unfolding some_moved
returns c =
    let a = c.args in
    let b = c.from-b.result.count in
    let test = λ (i : ℕ). lane_moved a.op a.s b (lane_at b i a.n) (lane_at b i a.m) in
    rw (← c.from-b.ensures)
    (any_from_yields_List test _ _ c.any.result c.any.ensures.ran (YieldsList-from_range 0 (64 / b) (64 / b) refl (omega arith)) (λ x r q k. search (rules, tests))
    ∙ some_listed test (64 / b))
