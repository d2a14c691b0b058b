-- Demand 3 over the definitions.
-- Assumes nothing.
use mathlib.Core.Path.{◌≡◌, refl, sym, ◌∙◌, ap, subst}
use mathlib.Core.List.{List}
use mathlib.Core.Logic.{◌≢◌}
use Prim.Native.Nat.{ℕ, ◌*◌, ◌^◌, ◌≤◌, ◌<◌}
use native.Mathlib.Omega.{arith}
use lib.ListN.{length, get_or, take}
use Rattle.laws.specs.Answer as stepping
use Rattle.laws.specs.AnswerAt.{AnswerAt, accepted, refused, refused_at}
use Rattle.laws.proofs.Never.{never}
use Rattle.std.specs.Prelude.{Option, Some, None}
use Rattle.insn.specs.declared.Refusal.{Refusal}
use Rattle.insn.specs.Refusals.{number}
use Rattle.machine.specs.State.{State, state}
use Rattle.runs.specs.Run.{Run, done, run_pairs, run_of, machine_steps}
use Rattle.runs.proofs.Promises.{run_kept}
use Rattle.runs.proofs.Runs.{all-run, each-run, runs-from-start}
use Rattle.sheet.specs.Demand3.{done_after, Demand3}
use Rattle.sheet.specs.Evaluation.{evaluated_by, evaluation_of, state_left}
use Rattle.steps.specs.declared.Terms.{Terms}
use Rattle.steps.specs.declared.faults.SheetError.{SheetError}
use Rattle.steps.specs.Answers.{refused_with, refused_for}
use Rattle.steps.specs.Meaning.{rows_of, meaning}
use Rattle.recipes.specs.Pairs.{halfwords_of}
use Rattle.steps.specs.Steps.{steps_of}
use Rattle.translator.specs.Translation.{records_of, translation_of, written_of, Translates}
use Rattle.sheet.proofs.Doing.{doing, code-steps, run-unmarked}
use Rattle.sheet.proofs.Sheets.{acts_of, sheet-does, sheet-left, sheet-short}
use Rattle.translator.proofs.Translations.{translates, translated, kept-unless, code-size, front, code-there}

-- the run of a sheet that is translated
module _ (t : Terms) (bytes out : List ℕ) (s : State) (budget n : ℕ) (a : Translates t bytes (length out) n) where
  abbrev code : List ℕ
  code = take (2 * n) (written_of t bytes out)

  answered : evaluation_of t bytes out s budget ≡ accepted (run_of code 0 s budget)
  unfolding evaluated_by
  answered = rw (translated t bytes (length out) n a)

  abbrev last : State
  last = state (doing (acts_of (steps_of bytes)) s.file) s.mark

  runs : length s.file ≡ 32 → n ≤ budget → run_of code 0 s budget ≡ record { ending = done; executed = n; state = last }
  runs size enough =
      let l : length (halfwords_of (records_of bytes)) ≡ 2 * n = code-size t bytes out n a in
      let e : machine_steps n (halfwords_of (records_of bytes)) s ≡ stepping.accepted last =
      ap (λ (m : ℕ). machine_steps m (halfwords_of (records_of bytes)) s) a.count ∙ code-steps (records_of bytes) (acts_of (steps_of bytes)) s (sheet-does (steps_of bytes) a.keep) in
      ap (λ (c : List ℕ). run_of c 0 s budget) (code-there t bytes out n a)
      ∙ runs-from-start (halfwords_of (records_of bytes)) s budget (omega arith) size
      ∙ all-run (halfwords_of (records_of bytes)) n budget s last l e enough

  pub ends : length s.file ≡ 32 → n ≤ budget → evaluation_of t bytes out s budget ≡ done_after n last
  ends size enough = answered ∙ ap accepted (runs size enough)

  pub rows : length s.file ≡ 32 → n ≤ budget → ((k : ℕ) → get_or s.file k 0 < 2 ^ 64)
      → rows_of (state_left (evaluation_of t bytes out s budget) s).file ≡ meaning (steps_of bytes) (rows_of s.file)
  rows size enough small =
      ap (λ (e : AnswerAt Run). rows_of (state_left e s).file) (ends size enough)
      ∙ sheet-left (steps_of bytes) a.keep s.file (record { size = size; small = small })

  pub unmarked : (run_of code 0 s budget).state.mark ≡ s.mark
  unmarked =
      each-run code 0 budget s (λ (r : Run). r.state.mark ≡ s.mark) refl
      (λ e f h. ap (λ (c : List ℕ). (run_pairs c budget s).state.mark) (code-there t bytes out n a)
      ∙ run-unmarked (records_of bytes) (acts_of (steps_of bytes)) budget s (sheet-does (steps_of bytes) a.keep))

  pub counted : (r : Run) → evaluation_of t bytes out s budget ≡ accepted r → machine_steps r.executed code s ≡ stepping.accepted (state_left (evaluation_of t bytes out s budget) s)
  counted r e =
      let same : run_of code 0 s budget ≡ r = cc (sym answered ∙ e) in
      subst (λ (r : Run). machine_steps r.executed code s ≡ stepping.accepted r.state) same (run_kept code 0 budget s)
      ∙ ap (λ (e : AnswerAt Run). stepping.accepted (state_left e s)) (sym e)

-- a sheet that is not
refuses : (t : Terms) (bytes out : List ℕ) (s : State) (budget : ℕ) → ((n : ℕ) → Translates t bytes (length out) n → ⊥)
    → let e = evaluation_of t bytes out s budget in ((r : Run) → e ≢ accepted r) × ((written_of t bytes out ≡ out) × (state_left e s ≡ s))
unfolding evaluated_by
refuses t bytes out s budget other = go (translation_of t bytes (length out)) refl
  where
    same : written_of t bytes out ≡ out
    same = kept-unless t bytes out (λ n e. other n (translates t bytes (length out) n e))

    go : (x : AnswerAt ℕ) → translation_of t bytes (length out) ≡ x
        → let e = evaluated_by x (written_of t bytes out) s budget in ((r : Run) → e ≢ accepted r) × ((written_of t bytes out ≡ out) × (state_left e s ≡ s))
    go (accepted n) e = absurd (other n (translates t bytes (length out) n e))
    go (refused n) e = ((λ r e. never (cc)), (same, refl))
    go (refused_at n i) e = ((λ r e. never (cc)), (same, refl))

-- translated or not, the mark stays
mark-kept : (t : Terms) (bytes out : List ℕ) (s : State) (budget : ℕ) → (state_left (evaluation_of t bytes out s budget) s).mark ≡ s.mark
unfolding evaluated_by
mark-kept t bytes out s budget = go (translation_of t bytes (length out)) refl
  where
    go : (x : AnswerAt ℕ) → translation_of t bytes (length out) ≡ x → (state_left (evaluated_by x (written_of t bytes out) s budget) s).mark ≡ s.mark
    go (accepted n) e = unmarked t bytes out s budget n (translates t bytes (length out) n e)
    go (refused n) e = refl
    go (refused_at n i) e = refl

pub sheets-hold : (t : Terms) (bytes out : List ℕ) (s : State) (budget : ℕ) → ((k : ℕ) → get_or s.file k 0 < 2 ^ 64)
    → Demand3 t bytes out s budget (written_of t bytes out) (state_left (evaluation_of t bytes out s budget) s) (evaluation_of t bytes out s budget)
sheets-hold t bytes out s budget small =
    record {
      written = λ n a. front t bytes out n a;
      size = λ n a. code-size t bytes out n a;
      short = λ n a. sheet-short (steps_of bytes) a.keep;
      ends = λ n a size enough. let d = ends t bytes out s budget n a size enough in d ∙ ap (λ (x : AnswerAt Run). done_after n (state_left x s)) (sym d);
      rows = λ n a size enough. rows t bytes out s budget n a size enough small;
      mark = mark-kept t bytes out s budget;
      counted = λ n r a e. counted t bytes out s budget n a r e;
      refused = refuses t bytes out s budget;
    }

-- the answers of the calls
module _ (t : Terms) (bytes out : List ℕ) (s : State) (budget : ℕ) (small : (k : ℕ) → get_or s.file k 0 < 2 ^ 64) (out' : List ℕ) (w : out' ≡ written_of t bytes out) where
  abbrev Evaluates : AnswerAt Run → State → Type 0
  Evaluates answer s' =
      let e = evaluation_of t bytes out s budget in
      (answer ≡ e) × ((out' ≡ written_of t bytes out) × ((s' ≡ state_left e s) × Demand3 t bytes out s budget out' s' answer))

  evaluates : (answer : AnswerAt Run) → answer ≡ evaluation_of t bytes out s budget → Evaluates answer (state_left answer s)
  evaluates answer e = (
    e,
    (
      w,
      (
        ap (λ (a : AnswerAt Run). state_left a s) e,
        subst (λ (o : List ℕ). Demand3 t bytes out s budget o (state_left answer s) answer) (sym w)
            (subst (λ (a : AnswerAt Run). Demand3 t bytes out s budget (written_of t bytes out) (state_left a s) a) (sym e) (sheets-hold t bytes out s budget small)),
      ),
    ),
  )

  pub after_run : (n : ℕ) (r : Run) → translation_of t bytes (length out) ≡ accepted n → r ≡ run_of (take (2 * n) out') 0 s budget → Evaluates (accepted r) r.state
  unfolding evaluated_by
  after_run n r f e =
      evaluates (accepted r)
      (ap accepted (e ∙ ap (λ (o : List ℕ). run_of (take (2 * n) o) 0 s budget) w) ∙ ap (λ (x : AnswerAt ℕ). evaluated_by x (written_of t bytes out) s budget) (sym f))

  after-refused : (f : Refusal) (i : Option ℕ) → refused_with f i ≡ translation_of t bytes (length out) → Evaluates (refused_with f i) s
  unfolding evaluated_by
  after-refused f None e = evaluates (refused (number f)) (ap (λ (x : AnswerAt ℕ). evaluated_by x (written_of t bytes out) s budget) e)
  after-refused f (Some i) e = evaluates (refused_at (number f) i) (ap (λ (x : AnswerAt ℕ). evaluated_by x (written_of t bytes out) s budget) e)

  pub after-refusal : (e : SheetError) → refused_for e ≡ translation_of t bytes (length out) → Evaluates (refused_for e) s
  after-refusal e = after-refused e.cause e.step

-- room for the pairs that were counted
pub prefix : (t : Terms) (bytes out out' : List ℕ) (n : ℕ) → translation_of t bytes (length out) ≡ accepted n → length out' ≡ length out → 2 * n ≤ length out'
prefix t bytes out out' n e l = omega (arith, (translates t bytes (length out) n e).long)
