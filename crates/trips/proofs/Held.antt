-- What the code's types hold: a record's float has 64 bits.
-- Assumes nothing.
use mathlib.Core.Bool.{Bool, true, false}
use mathlib.Core.List.{List}
use lib.Dec.{ltb}
use mir.Val.{Val}
use denote.Shadow.{shadow}
use denote.Enum.Declared.{row}
use Rattle.laws.specs.Choice.{choose}
use Rattle.insn.specs.declared.Insn.{Insn}
use Rattle.insn.specs.declared.Operand.{Operand}
use Rattle.insn.specs.declared.Operand.TheVariants.{D, Q, S, Imm, Float as Real, Other, Absent}
use Rattle.insn.specs.Record.{place_at}
use Rattle.insn.specs.contracts.Operand.{the_type}
use Rattle.trips.specs.Spelling.{Held}

pub operand-held : (o : Operand) (vs : List Val) → shadow ((row the_type).own_val o vs) → Held o
operand-held (Real x) vs g = g.1.1.1.1.0.1
operand-held (D n) vs g = tt
operand-held (Q n) vs g = tt
operand-held (S n) vs g = tt
operand-held (Imm v) vs g = tt
operand-held Other vs g = tt
operand-held Absent vs g = tt

pub place-held : (i : Insn) → Held i.second → Held (place_at i 1)
unfolding place_at
place-held i h = go (ltb 1 i.count)
  where
    go : (b : Bool) → Held (choose b i.second Absent)
    go true = h
    go false = tt
