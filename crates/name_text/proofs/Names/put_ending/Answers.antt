use mathlib.Core.Path.{refl}
use Prim.Native.Nat.{◌+◌, ◌≤◌}
use native.Mathlib.Omega.{arith}
use lib.ListN.{length, drop}
use lib.Seq.{take_all}
use Rattle.names.specs.Names.{codes, name_of}
use Rattle.name_text.proofs.Endings.{ending-turn, ready-end, step-small}
use Rattle.name_text.proofs.Spaces.{ending-length}
use Rattle.name_text.proofs.Names.put_ending.Goals as goal

pub loop-j-preserved : goal.loop-j-preserved
loop-j-preserved c =
    let l = c.loop-j in
    let m = c.args.m in
    let b = c.args.self.now.table.bytes m (4 + l.j) c.requires.m_bound (omega arith) in
    record {
      near = omega (arith, step-small _ c.from-at.ensures);
      ready = ending-turn m l.j _ b c.from-at.ensures l.invariant.ready c.store.ensures;
    }

pub returns : goal.returns
returns c =
    let l = c.loop-j in
    let s = drop 4 (codes (name_of c.args.m)) in
    let h : length s ≤ 8 = omega (arith, ending-length c.args.m) in
    record {
      buffer = refl;
      placed = ready-end s h (rw (take_all l.j s (omega (arith, h))) at l.invariant.ready) c.store-2.ensures;
    }
