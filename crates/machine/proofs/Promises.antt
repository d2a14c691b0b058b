-- The promises of specs/Promises.antt.
-- Assumes nothing.
use mathlib.Core.Path.{◌≡◌, refl, sym, ap, subst, ◌∙◌}
use mathlib.Core.Bool.{Bool, true, false}
use Prim.Native.Nat.{ℕ}
use lib.Bits.{or_self}
use Rattle.laws.specs.Answer.{Answer, accepted, refused}
use Rattle.laws.specs.Choice.{choose}
use Rattle.laws.proofs.Never.{never, wrong}
use Rattle.laws.specs.Signed.{modulo}
use Rattle.insn.specs.declared.Insn.{Insn}
use Rattle.insn.specs.declared.Sign.{Sign}
use Rattle.insn.specs.declared.Width.{Width}
use Rattle.insn.proofs.Promises.{numbered_apart}
use Rattle.decode.specs.Reading.{reading}
use Rattle.fields.specs.Registers.{Bits, bits, vec_bits}
use Rattle.double_lanes.specs.declared.LongOp.TheVariants as long
use Rattle.double_lanes.specs.declared.DoubleOp.TheVariants.{Long}
use Rattle.double_lanes.proofs.Doubles.{shift_none}
use Rattle.operations.specs.declared.BitOp.TheVariants.{Orr, Mov}
use Rattle.operations.specs.declared.Operation.TheVariants.{Bits as Bitwise}
use Rattle.forms.specs.declared.Form.TheVariants.{Bits as Orred, Copy}
use Rattle.tables.specs.declared.lengths.Lengths.{Lengths}
use Rattle.tables.specs.Lengths.{lengths}
use Rattle.meanings.specs.declared.Numbers.{Numbers}
use Rattle.std.specs.Prelude.{Ok, Err}
use Rattle.effects.specs.declared.State.{State as Left}
use Rattle.effects.specs.File.{File, Good, read_d}
use Rattle.forms.specs.Forms.{groups, named_forms, form_of}
use Rattle.meanings.specs.Meaning.{Act, act, double, registers, numbers, lengths_in, numbers_in, Trio, trio, gathered, same_lengths, acting, doubling, whole_pattern, meaning_in, meaning_of}
use Rattle.operations.specs.Operations.{result_of}
use Rattle.effects.specs.Effect.{effect, moves}
use Rattle.marks.proofs.Promises.{moved_exactly}
use Rattle.machine.specs.State.{State, state, acted}
use Rattle.machine.specs.Step.{step_by, step_insn, step_read, step_pair}
use Rattle.machine.specs.Promises.{FileKept, OnlyTarget, PairMoves, MarkTurns, MarkStays, CopyAlias, LongMoveAlias, OutcomesApart}
use Rattle.meanings.proofs.Actions.{meant}
use Rattle.effects.proofs.Effects.{effect-good, effect-other}

-- a step that was taken is an act's
taken : (i : Insn) (s next : State) (P : State → Type 0) → ((x : Act) → meaning_of i ≡ accepted x → P (acted x s)) → step_insn i s ≡ accepted next → P next
unfolding step_by
taken i s next P each e = go (meaning_of i) refl e
  where
    go : (a : Answer Act) → meaning_of i ≡ a → step_by a s ≡ accepted next → P next
    go (accepted x) m f = let k : acted x s ≡ next = cc in subst P k (each x m)
    go (refused n) m f = never (cc)

pub file_kept : FileKept
unfolding acted
file_kept i s next g e = taken i s next (λ (t : State). Good t.file) (λ x m. effect-good x s.file (meant i x m).sound g) e

pub only_target : OnlyTarget
unfolding acted
only_target i s next quad d k e v h u =
    taken i s next (λ (t : State). read_d t.file k ≡ read_d s.file k)
    (λ x m. let t = (meant i x m).target in
    let same : (numbers_in x).d ≡ d = cc in
    let alike : (lengths_in x).d ≡ quad = cc in
    effect-other x s.file k (rw same h) (rw (same, alike) u)) e

-- a pair's step that was taken is an act's too
pair-taken : (hw1 hw2 : ℕ) (s next : State) (P : State → Type 0)
    → ((i : Insn) (x : Act) → reading hw1 hw2 0 ≡ accepted i → meaning_of i ≡ accepted x → P (acted x s)) → step_pair hw1 hw2 s ≡ accepted next → P next
unfolding step_read
pair-taken hw1 hw2 s next P each e = go (reading hw1 hw2 0) refl e
  where
    go : (a : Answer Insn) → reading hw1 hw2 0 ≡ a → step_read a s ≡ accepted next → P next
    go (accepted i) r f = taken i s next P (λ x m. each i x r m) f
    go (refused n) r f = never (cc)

pub mark_stays : MarkStays
unfolding acted
mark_stays hw1 hw2 s next e marked = pair-taken hw1 hw2 s next (λ (t : State). t.mark ≡ true) (λ i x r m. rw marked) e

-- an act that moves a lane is one on registers of one length
lane_of : (hw1 hw2 : ℕ) (file : File) (i : Insn) (x : Act) → reading hw1 hw2 0 ≡ accepted i → meaning_of i ≡ accepted x → moves x file ≡ true → PairMoves hw1 hw2 file
lane_of hw1 hw2 file i (act op r) read means e = record { insn = i; op = op; registers = r; read = read; meant = means; lane = (moved_exactly _ op _ _).0 e }
lane_of hw1 hw2 file i (double op w r) read means e = wrong e

by-lane : (hw1 hw2 : ℕ) (file : File) (i : Insn) (x : Act) → reading hw1 hw2 0 ≡ accepted i → meaning_of i ≡ accepted x → PairMoves hw1 hw2 file → moves x file ≡ true
by-lane hw1 hw2 file i x read means p =
    let same : i ≡ p.insn = cc (sym read ∙ p.read) in
    let act-is : x ≡ act p.op p.registers = cc (sym means ∙ ap meaning_of same ∙ p.meant) in
    ap (λ (y : Act). moves y file) act-is ∙ (moved_exactly _ p.op _ _).1 p.lane

pub mark_turns : MarkTurns
unfolding acted
mark_turns hw1 hw2 s next e unmarked =
    pair-taken hw1 hw2 s next (λ (t : State). (t.mark ≡ true → PairMoves hw1 hw2 s.file) × (PairMoves hw1 hw2 s.file → t.mark ≡ true))
    (λ i x r m. rw unmarked (lane_of hw1 hw2 s.file i x r m, by-lane hw1 hw2 s.file i x r m)) e

-- what vorr does with equal sources, a copy does
copied : (s : State) (quad : Bool) (d n m : ℕ) → n ≡ m
    → acted (act (Bitwise Orr) (registers quad d n m)) s ≡ acted (act (Bitwise Mov) (registers quad d n m)) s
unfolding acted effect result_of
copied s quad d n m e = subst (λ (m : ℕ). acted (act (Bitwise Orr) (registers quad d n m)) s ≡ acted (act (Bitwise Mov) (registers quad d n m)) s) e (simp or_self)

alike : (s : State) (g : Answer Trio) → ((l : Lengths) (r : Numbers) → g ≡ accepted (trio l r) → r.n ≡ r.m)
    → step_by (acting (Bitwise Orr) g) s ≡ step_by (acting (Bitwise Mov) g) s
unfolding acting step_by
alike s (accepted (trio l r)) equal = go (same_lengths l (lengths l.d l.d l.d))
  where
    go : (b : Bool)
        → step_by (choose b (accepted (act (Bitwise Orr) (registers l.d r.d r.n r.m))) (refused 10)) s
        ≡ step_by (choose b (accepted (act (Bitwise Mov) (registers l.d r.d r.n r.m))) (refused 10)) s
    go true = ap accepted (copied s l.d r.d r.n r.m (equal l r refl))
    go false = refl
alike s (refused k) equal = refl

-- sources that are the same operand have the same number
equal-sources : (x y : Answer Bits) (l : Lengths) (r : Numbers) → gathered x y y ≡ accepted (trio l r) → r.n ≡ r.m
unfolding gathered
equal-sources (accepted (bits p d)) (accepted (bits q n)) l r e = let k : numbers d n n ≡ r = cc in rw (← k)
equal-sources (accepted (bits p d)) (refused k) l r e = never (cc)
equal-sources (refused k) y l r e = never (cc)

vorr-form : form_of "vorr" ≡ Orred Orr
unfolding groups named_forms form_of
vorr-form = refl

vmov-form : form_of "vmov" ≡ Copy
unfolding groups named_forms form_of
vmov-form = refl

pub copy_alias : CopyAlias
unfolding meaning_of meaning_in
copy_alias i j s a b c d e f g = rw (a, vorr-form, b, c, d, vmov-form, e, f, g) (alike s (gathered (vec_bits i.first) (vec_bits i.second) (vec_bits i.second)) (equal-sources (vec_bits i.first) (vec_bits i.second)))

-- a shift by 0 does what a move does
long-moved : (s : State) (sign : Sign) (w : Width) (g : Answer Trio)
    → step_by (doubling (Long (long.Shl 0) sign) w g) s ≡ step_by (doubling (Long long.Mov sign) w g) s
unfolding doubling step_by acted effect
long-moved s sign w (accepted (trio l r)) = go (same_lengths l (lengths true false false))
  where
    go : (b : Bool)
        → step_by (choose b (accepted (double (Long (long.Shl 0) sign) w r)) (refused 10)) s
        ≡ step_by (choose b (accepted (double (Long long.Mov sign) w r)) (refused 10)) s
    go true = rw shift_none
    go false = refl
long-moved s sign w (refused k) = refl

pub long_move_alias : LongMoveAlias
unfolding modulo whole_pattern meaning_of meaning_in
long_move_alias i j s sign w a b c d e f g =
    rw (a, b, c, d, e, f, g) (long-moved s sign w (gathered (vec_bits i.first) (vec_bits i.second) (vec_bits i.second)))

-- a declared state is what its file and mark are
same_state : (x y : Left) → state x.file x.mark ≡ state y.file y.mark → x ≡ y
same_state x y e = λ i. record { file = (e i).file; mark = (e i).mark }

pub outcomes_apart : OutcomesApart
outcomes_apart (Ok a) (Ok b) e = ap Ok (same_state a b (cc))
outcomes_apart (Ok a) (Err y) e = never (cc)
outcomes_apart (Err x) (Ok a) e = never (cc)
outcomes_apart (Err x) (Err y) e = ap Err (numbered_apart x y (cc))
