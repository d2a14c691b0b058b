-- Promises beyond the contracts; proofs/Promises.antt proves each under its name.
-- Assumes nothing.
use Rattle.std.specs.Prelude.{◌≡◌, ℕ, ◌+◌, ◌*◌, ◌^◌, ◌<◌}
use Rattle.operations.specs.declared.Operation.{Operation}
use Rattle.operations.specs.Operations.{result_of, Sized}

-- an operation on quadwords is the operation on their low doublewords and on their high ones
abbrev pub ByHalves : Type 0
ByHalves =
    (op : Operation) (d d' n n' m m' : ℕ) → Sized op → d < 2 ^ 64 → d' < 2 ^ 64 → n < 2 ^ 64 → n' < 2 ^ 64 → m < 2 ^ 64 → m' < 2 ^ 64
    → result_of 128 op (d + 2 ^ 64 * d') (n + 2 ^ 64 * n') (m + 2 ^ 64 * m')
    ≡ result_of 64 op d n m + 2 ^ 64 * result_of 64 op d' n' m'
