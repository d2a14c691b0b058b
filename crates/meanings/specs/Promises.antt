-- Promises beyond the contracts; proofs/Promises.antt proves each under its name.
-- Assumes nothing.
use Rattle.std.specs.Prelude.{false, ◌≡◌, ◌≤◌, Result}
use Rattle.laws.specs.Answer.{accepted, refused}
use Rattle.insn.specs.declared.Insn.{Insn}
use Rattle.insn.specs.declared.Refusal.{Refusal}
use Rattle.insn.specs.declared.Width.{Width}
use Rattle.insn.specs.Widths.{bits_of}
use Rattle.double_lanes.specs.declared.DoubleOp.{DoubleOp}
use Rattle.meanings.specs.declared.Action.{Action}
use Rattle.meanings.specs.declared.Numbers.{Numbers}
use Rattle.meanings.specs.Answers.{meaning_answer}
use Rattle.forms.specs.Promises.{listed}
use Rattle.meanings.specs.Meaning.{double, meaning_of}

-- a record whose name is not listed has no meaning
abbrev pub Unlisted : Type 0
Unlisted = (i : Insn) → listed i.mnemonic ≡ false → meaning_of i ≡ refused 10

-- an operation on registers of unlike length has lanes of 8, 16 or 32 bits in a doubleword
abbrev pub LanesTo32 : Type 0
LanesTo32 = (i : Insn) (op : DoubleOp) (w : Width) (r : Numbers) → meaning_of i ≡ accepted (double op w r) → bits_of w ≤ 32

-- an answer says which case it is
abbrev pub MeaningsApart : Type 0
MeaningsApart = (x y : Result Action Refusal) → meaning_answer x ≡ meaning_answer y → x ≡ y
