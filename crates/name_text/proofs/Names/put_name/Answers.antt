use mathlib.Core.List.{List, [], ◌∷◌, ◌++◌, append_assoc}
use mathlib.Core.Path.{sym, ap, ◌∙◌}
use Prim.Native.Nat.{ℕ}
use native.Mathlib.Omega.{arith}
use lib.ListN.{take, drop, take-append-drop}
use Rattle.names.proofs.Spellings.{no_name}
use Rattle.names.specs.Names.{codes, name_of}
use Rattle.name_text.proofs.Spaces.{begins}
use Rattle.text.proofs.Writes.{then, widen, reword}
use Rattle.name_text.proofs.Names.put_name.Goals as goal

pub returns-then-m-ge-COUNT : goal.returns-then-m-ge-COUNT
unfolding codes
returns-then-m-ge-COUNT c =
    rw (no_name c.args.m c.if-m-ge-COUNT.true) (widen (omega arith) c.put.ensures)

pub returns-else-m-ge-COUNT : goal.returns-else-m-ge-COUNT
unfolding codes
returns-else-m-ge-COUNT c =
    let s = codes (name_of c.args.m) in
    let n = c.args.self.now in
    let e = begins n.bytes n.table c.args.m c.if-m-ge-COUNT.false in
    let f = ap (λ (l : List ℕ). l ++ (drop 4 s ++ 32 ∷ [])) (sym e) ∙ sym (append_assoc (take 4 s) (drop 4 s) (32 ∷ [])) ∙ ap (λ (l : List ℕ). l ++ 32 ∷ []) (take-append-drop 4 s) in
    reword f (then c.put_word.ensures c.put_ending.ensures)
