-- What the code's types hold: an operation's constant has 64 bits.
-- Assumes nothing.
use mathlib.Core.List.{List}
use mir.Val.{Val}
use denote.Shadow.{shadow}
use denote.Enum.Declared.{row}
use Rattle.operations.specs.declared.Operation.{Operation}
use Rattle.operations.specs.declared.Operation.TheVariants.{Lanes, Bits, Constant}
use Rattle.operations.specs.contracts.Operation.{the_type}
use Rattle.operations.specs.Operations.{Sized}

pub operation-sized : (op : Operation) (vs : List Val) → shadow ((row the_type).own_val op vs) → Sized op
operation-sized (Lanes op w) vs h = tt
operation-sized (Bits op) vs h = tt
operation-sized (Constant op p) vs h = h.1.1.1.1.1.0.1
