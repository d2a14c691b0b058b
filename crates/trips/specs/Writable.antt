-- Nothing is refused that could be written: which records are refused, and which with 9, said of what pairs are read as.
-- proofs/Writable.antt proves `NothingHeldBack` under its name.
-- Assumes nothing.
use Rattle.std.specs.Prelude.{true, ◌≢◌, ◌≡◌, ℕ, ◌^◌, ◌<◌, Float, ℤ}
use Rattle.std.specs.Float.{binary64}
use Rattle.std.specs.Float.Ieee.{fits}
use Rattle.std.specs.Int.Signed.{mag}
use Rattle.laws.specs.Answer.{Answer, accepted, refused}
use Rattle.insn.specs.declared.Edition.{Edition}
use Rattle.insn.specs.declared.Insn.{Insn}
use Rattle.insn.specs.declared.Operand.{Operand}
use Rattle.insn.specs.declared.Operand.TheVariants.{Imm, Float as Real}
use Rattle.insn.specs.Record.{place_at}
use Rattle.decode.specs.Editions.{reading_in}
use Rattle.writings.specs.Forms.{Pair}
use Rattle.encode.specs.Writing.{writing_in}
use Rattle.trips.specs.Spelling.{Held, spelling, canonical}

-- there is a pair: two halfwords that are read, in the edition, with the mnemonic and the operands of the record,
-- where VORR with equal sources counts as VMOV, and VSHLL by 0 as VMOVL (`canonical`)
pub record PairFor (edition : Edition) (i : Insn) : Type 0 where
  pub hw1 : ℕ
  pub hw2 : ℕ
  pub first-halfword : hw1 < 65536
  pub second-halfword : hw2 < 65536
  pub found : Insn
  pub read : reading_in edition hw1 hw2 i.address ≡ accepted found
  pub same : spelling found ≡ canonical (spelling i)

-- another value of the same kind: an i64 for a whole number (`mag` is n for n and for -1 - n), an f64 for a float
pub data AnotherValue : Operand → Operand → Type 0 where
  another-number : (v w : ℤ) → w ≢ v → mag w < 2 ^ 63 → AnotherValue (Imm v) (Imm w)
  another-float : (x y : Float) → y ≢ x → fits binary64 y ≡ true → AnotherValue (Real x) (Real y)

-- the same record, but that one place within its count has another value of the same kind;
-- what stands past the count is no part of it
pub record AnotherOfItsKind (i other : Insn) : Type 0 where
  pub mnemonic : other.mnemonic ≡ i.mnemonic
  pub mark : other.mark ≡ i.mark
  pub address : other.address ≡ i.address
  pub count : other.count ≡ i.count
  pub place : ℕ
  pub value : AnotherValue (place_at i place) (place_at other place)
  pub elsewhere : (k : ℕ) → k ≢ place → place_at other k ≡ place_at i k

-- there would be a pair, were the whole number or the float another of its kind
pub record PairForAnother (edition : Edition) (i : Insn) : Type 0 where
  pub other : Insn
  pub another : AnotherOfItsKind i other
  pub pair-for : PairFor edition other

-- a refusal, with whatever number
abbrev pub IsRefused : Answer Pair → Type 0
IsRefused answer = (n : ℕ) × (answer ≡ refused n)

-- an answer to a record that is as the pairs say: a refusal exactly if there is no pair,
-- and 9 exactly if there is none, but there would be one
pub record AsPairsSay (edition : Edition) (i : Insn) (answer : Answer Pair) : Type 0 where
  pub refused-if-none : ¬ PairFor edition i → IsRefused answer
  pub none-if-refused : IsRefused answer → ¬ PairFor edition i
  pub nine-if-another : ¬ PairFor edition i → PairForAnother edition i → answer ≡ refused 9
  pub another-if-nine : answer ≡ refused 9 → (¬ PairFor edition i) × PairForAnother edition i

-- a writer that answers so, in each edition, to every record that the code's types can hold: a float at its second place,
-- the only one that takes a float, is an f64 (`Held`)
abbrev pub GoesByPairs : (Edition → Insn → Answer Pair) → Type 0
GoesByPairs write = (edition : Edition) (i : Insn) → Held (place_at i 1) → AsPairsSay edition i (write edition i)

-- ours does
abbrev pub NothingHeldBack : Type 0
NothingHeldBack = GoesByPairs writing_in
