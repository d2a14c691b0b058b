-- For the contracts of this crate's own functions alone.
-- Assumes nothing.
use Rattle.std.specs.Prelude.{ℕ, suc, Result, Ok, Err}
use Rattle.insn.specs.Refusals.{number}
use Rattle.insn.specs.declared.Refusal.{Refusal}
use Rattle.steps.specs.Faults.{Fault, sound, fault}
use Rattle.steps.specs.Rules.{Use, unused, up_to, below, Uses}
use Rattle.steps.specs.declared.rules.Values.{Values}

-- how many numbers a use allows, from 0 on
abbrev pub limit : Use → ℕ
limit unused = 1
limit (up_to n) = suc n
limit (below n) = n

-- how many numbers a kind allows in each byte that is told by the kind alone
abbrev pub limits : Uses → Values
limits u = record { a = limit u.a; b = limit u.b; c = limit u.c; width = limit u.width; sign = limit u.sign }

-- what the answer on step i is
abbrev pub fault_at : {A : Type 0} → ℕ → Result A Refusal → Fault
fault_at i (Ok a) = sound
fault_at i (Err f) = fault (number f) i
