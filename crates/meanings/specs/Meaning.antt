-- The meaning of a record: an operation and its registers. The address and the mark do not matter.
-- A record that is unlike its name's form in count, kinds, register range or D/Q mix has no meaning, which is refusal 10.
-- Assumes nothing.
use Rattle.std.specs.Prelude.{Bool, ℕ, ◌/◌, ◌%◌, ◌^◌, eqb, leb}
use Rattle.std.specs.Bool.{beq}
use Rattle.laws.specs.Answer.{Answer, accepted, refused, and_then}
use Rattle.laws.specs.Choice.{choose, both}
use Rattle.insn.specs.declared.Insn.{Insn}
use Rattle.insn.specs.declared.Operand.{Operand}
use Rattle.insn.specs.Record.{value_or}
use Rattle.names.specs.Names.{name_of}
use Rattle.laws.specs.Search.{Found, at, none}
use Rattle.fields.specs.Registers.{Bits, bits, vec_bits}
use Rattle.floats.specs.Floats.{float_bits}
use Rattle.floats.specs.Found.{find_float}
use Rattle.immediates.specs.Modified.{copies}
use Rattle.laws.specs.Signed.{modulo}
use Rattle.insn.specs.Widths.{bits_of}
use Rattle.lanes.specs.declared.LaneOp.TheVariants.{Shl, Shr}
use Rattle.insn.specs.declared.Width.{Width}
use Rattle.tables.specs.declared.lengths.Lengths.{Lengths}
use Rattle.tables.specs.Lengths.{lengths}
use Rattle.double_lanes.specs.declared.LongOp.TheVariants as long
use Rattle.double_lanes.specs.declared.NarrowOp.TheVariants as narrow
use Rattle.double_lanes.specs.declared.DoubleOp.{DoubleOp}
use Rattle.double_lanes.specs.declared.DoubleOp.TheVariants.{Long, Narrow}
use Rattle.double_lanes.specs.Double.{lengths_of}
use Rattle.operations.specs.declared.BitOp.TheVariants.{Mov}
use Rattle.operations.specs.declared.ConstantOp.TheVariants as constant
use Rattle.operations.specs.declared.Operation.{Operation}
use Rattle.operations.specs.declared.Operation.TheVariants.{Lanes, Bits as Bitwise, Constant}
use Rattle.forms.specs.declared.Direction.{Direction}
use Rattle.forms.specs.declared.Direction.TheVariants as way
use Rattle.forms.specs.declared.Form.{Form}
use Rattle.forms.specs.declared.Form.TheVariants as form
use Rattle.meanings.specs.declared.Numbers.{Numbers}
use Rattle.meanings.specs.declared.Registers.{Registers}
use Rattle.forms.specs.Forms.{form_of}

-- an operation on registers of one length, or of the lengths that it has
pub data Act : Type 0 where
  act : Operation → Registers → Act
  double : DoubleOp → Width → Numbers → Act

abbrev pub registers : Bool → ℕ → ℕ → ℕ → Registers
registers quad d n m = record { quad = quad; d = d; n = n; m = m }

abbrev pub numbers : ℕ → ℕ → ℕ → Numbers
numbers d n m = record { d = d; n = n; m = m }

-- which of an act's registers are quadwords, and their numbers
abbrev pub lengths_in : Act → Lengths
lengths_in (act op r) = lengths r.quad r.quad r.quad
lengths_in (double op w r) = lengths_of op

abbrev pub numbers_in : Act → Numbers
numbers_in (act op r) = numbers r.d r.n r.m
numbers_in (double op w r) = r

-- three operands that are registers, each of any length
pub data Trio : Type 0 where
  trio : Lengths → Numbers → Trio

unfoldable pub gathered : Answer Bits → Answer Bits → Answer Bits → Answer Trio
gathered (accepted (bits p d)) (accepted (bits q n)) (accepted (bits r m)) = accepted (trio (lengths p q r) (numbers d n m))
gathered (accepted (bits p d)) (accepted (bits q n)) (refused x) = refused 10
gathered (accepted (bits p d)) (refused x) c = refused 10
gathered (refused x) b c = refused 10

-- whether they have the same lengths
abbrev pub same_lengths : Lengths → Lengths → Bool
same_lengths x y = both (beq x.d y.d) (both (beq x.n y.n) (beq x.m y.m))

-- on registers of one length
unfoldable pub acting : Operation → Answer Trio → Answer Act
acting op (accepted (trio l r)) =
    choose (same_lengths l (lengths l.d l.d l.d)) (accepted (act op (registers l.d r.d r.n r.m))) (refused 10)
acting op (refused x) = refused x

abbrev pub on : Operation → Operand → Operand → Operand → Answer Act
on op a b c = acting op (gathered (vec_bits a) (vec_bits b) (vec_bits c))

-- on registers of the operation's own lengths
unfoldable pub doubling : DoubleOp → Width → Answer Trio → Answer Act
doubling op w (accepted (trio l r)) = choose (same_lengths l (lengths_of op)) (accepted (double op w r)) (refused 10)
doubling op w (refused x) = refused x

abbrev pub on_unlike : DoubleOp → Width → Operand → Operand → Operand → Answer Act
on_unlike op w a b c = doubling op w (gathered (vec_bits a) (vec_bits b) (vec_bits c))

-- the 64 bits of a whole number
unfoldable pub whole_pattern : Operand → Answer ℕ
whole_pattern o = value_or (λ v. accepted (modulo 64 v)) (λ x. refused 10) (refused 10) o

-- the single-precision pattern of a float that a pair carries, twice
abbrev pub pattern_at : Found → Answer ℕ
pattern_at (at b) = accepted (copies 2 32 (float_bits b))
pattern_at none = refused 10

unfoldable pub float_pattern : Operand → Answer ℕ
float_pattern o = value_or (λ v. refused 10) (λ x. pattern_at (find_float x)) (refused 10) o

-- the lowest bits of p, as many as the width has, in every element of 64 bits
unfoldable pub repeated : Width → ℕ → ℕ
repeated w p = copies (64 / bits_of w) (bits_of w) (p % 2 ^ bits_of w)

-- a shift of b by k places
abbrev pub shifting : Direction → Width → ℕ → Operand → Operand → Answer Act
shifting way.Left w k a b = on (Lanes (Shl k) w) a b b
shifting (way.Right s) w k a b = on (Lanes (Shr s k) w) a b b
shifting (way.Long s) w k a b = on_unlike (Long (long.Shl k) s) w a b b
shifting way.Narrow w k a b = on_unlike (Narrow (narrow.Shr k)) w a b b

-- How many operands a form has, and what they are: a is the target, b and c are sources. An amount is at most 64, for every width.
abbrev pub count_of : Form → ℕ
count_of (form.Lanes op w) = 3
count_of (form.Bits op) = 3
count_of form.Copy = 2
count_of (form.Shift way w) = 3
count_of (form.Double op w) = 3
count_of (form.Extend s w) = 2
count_of (form.Number op w) = 2
count_of form.Float = 2
count_of form.Nothing = 0

unfoldable pub meaning_in : Form → Operand → Operand → Operand → Answer Act
meaning_in (form.Lanes op w) a b c = on (Lanes op w) a b c
meaning_in (form.Bits op) a b c = on (Bitwise op) a b c
meaning_in form.Copy a b c = on (Bitwise Mov) a b b
meaning_in (form.Shift way w) a b c = and_then (whole_pattern c) (λ k. choose (leb k 64) (shifting way w k a b) (refused 10))
meaning_in (form.Double op w) a b c = on_unlike op w a b c
meaning_in (form.Extend s w) a b c = on_unlike (Long long.Mov s) w a b b
meaning_in (form.Number op w) a b c = and_then (whole_pattern b) (λ p. on (Constant op (repeated w p)) a a a)
meaning_in form.Float a b c = and_then (float_pattern b) (λ p. on (Constant constant.Mov p) a a a)
meaning_in form.Nothing a b c = refused 10

unfoldable pub meaning_of : Insn → Answer Act
meaning_of i =
    let f = form_of (name_of i.mnemonic) in
    choose (eqb i.count (count_of f)) (meaning_in f i.first i.second i.third) (refused 10)
