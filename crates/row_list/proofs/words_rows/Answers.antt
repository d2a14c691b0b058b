use Rattle.std.proofs.Common.{◌≡◌, ◌<◌, Option, Some, None, Bool, false, ℕ, List, length, get_or, eqb, rules, tests, refl, ap, ◌∙◌}
use Rattle.std.proofs.lemmas.Iterator.Splits.{YieldsList-from_slice_split}
use Rattle.std.proofs.lemmas.Iterator.Consumers.{YieldsList-turn, YieldsList-end}
use Rattle.std.proofs.lemmas.List.{length_push}
use Rattle.std.specs.Fn.{CalledAt}
use Rattle.std.specs.Iterator.{Yields}
use Rattle.std.specs.Slice.Iter.{split_steps, split_rest, split_done, split_callee}
use Rattle.std.specs.declared.slice.Split.{Split}
use denote.Param.Members.{Mut}
use denote.Ref.{Bor}
use Rattle.row_list.specs.Answers.{list_answer}
use Rattle.row_list.specs.Lists.{words_of}
use Rattle.row_list.proofs.Joins.{joined-none, with-row, with-not, with-end}
use Rattle.row_list.proofs.words_rows.Goals as goal

-- the pieces that were cut off so far, of a text cut at commas
module _ {F : Type 0} (s t : Split ℕ F) (g : Mut F (Bor ℕ × Unit {0}) Bool) (text : List ℕ) (cut : List (Bor (List ℕ))) (y : Yields (split_steps g) s cut t) (rest : split_rest s ≡ text) (done : split_done s ≡ false)
    (test : (x : ℕ) (b : Bool) (q : F) → CalledAt g (split_callee s) x b q → (q ≡ split_callee s) × (b ≡ eqb x 44)) where
  turn : (r : Option (Bor (List ℕ))) (u : Split ℕ F) (x : Bor (List ℕ)) → r ≡ Some x → split_steps g t r u → (length cut < length (words_of text)) × (x.now ≡ get_or (words_of text) (length cut) x.now)
  turn = YieldsList-turn (YieldsList-from_slice_split g (λ b. eqb b 44) text rest done refl test) cut t y

  all_cut : (r : Option (Bor (List ℕ))) (u : Split ℕ F) → r ≡ None → split_steps g t r u → length cut ≡ length (words_of text)
  all_cut r u e h = (YieldsList-end (YieldsList-from_slice_split g (λ b. eqb b 44) text rest done refl test) cut t y r u e h).1

pub loop-word-init : goal.loop-word-init
loop-word-init c = joined-none _

pub returns-in_err-row : goal.returns-in_err-row
returns-in_err-row c =
    let t = c.args.text.now in
    let l = c.loop-word in
    let e = turn _ _ _ t l.yielded l.yielded_by (search rules) (search rules) (λ x b q k. search (rules, tests)) _ _ c.in-Some.word c.in-Some.is c.next.ensures.steps in
    let none : c.from_residual.result ≡ None = search rules in
    ap list_answer none ∙ with-not (words_of t) (length l.yielded) l.rows c.in-Some.word.now e _ (search rules) c.word_row.ensures ∙ l.invariant

pub loop-word-preserved : goal.loop-word-preserved
loop-word-preserved c =
    let t = c.args.text.now in
    let l = c.loop-word in
    let e = turn _ _ _ t l.yielded l.yielded_by (search rules) (search rules) (λ x b q k. search (rules, tests)) _ _ c.in-Some.word c.in-Some.is c.next.ensures.steps in
    rw (length_push l.yielded c.in-Some.word)
    (with-row (words_of t) (length l.yielded) l.rows c.in-Some.word.now e _ c.in_ok-row.row c.in_ok-row.was c.word_row.ensures ∙ l.invariant)

pub returns : goal.returns
returns c =
    let t = c.args.text.now in
    let l = c.loop-word in
    let e = all_cut _ _ _ t l.yielded l.yielded_by (search rules) (search rules) (λ x b q k. search (rules, tests)) _ _ c.in-None.is c.next.ensures.steps in
    with-end (words_of t) (length l.yielded) l.rows e ∙ l.invariant
