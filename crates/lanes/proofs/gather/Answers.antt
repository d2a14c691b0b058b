use Rattle.lanes.proofs.Gathered.{below, fits, each}
use Rattle.lanes.proofs.gather.Goals as goal

pub overflow_add-out : goal.overflow_add-out
overflow_add-out g c =
    let l = c.requires.fits c.loop-i.i c.of.result c.loop-i-test.true c.of.ensures in
    record { fits = fits c.args.w.count c.loop-i.i c.args.count c.loop-i.out c.of.result c.loop-i-test.true c.requires.room c.loop-i.invariant.0 l }

pub loop-i-preserved : goal.loop-i-preserved
loop-i-preserved g c =
    let w = c.args.w.count in
    let i = c.loop-i.i in
    let l = c.requires.fits i c.of.result c.loop-i-test.true c.of.ensures in (
      below w i c.args.count c.loop-i.out c.of.result c.loop-i-test.true c.requires.room c.loop-i.invariant.0 l,
      each w i c.args.count c.loop-i.out c.of.result c.loop-i-test.true c.requires.room c.loop-i.invariant.0 l
          (goal.F-post g c.args.of) c.loop-i.invariant.1 c.of.ensures,
    )
