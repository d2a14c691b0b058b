-- What an operation leaves in its target: document 01, 'Register machine', and ARM DDI 0406C, A8.8.
-- d is the old target, n and m are the sources; `size` is 64 for a doubleword and 128 for a quadword.
-- Assumes nothing.
use Rattle.std.specs.Prelude.{ℕ, ◌/◌, ◌^◌, ◌<◌}
use Rattle.std.specs.Int.Bits.{bit_and, bit_or, bit_xor}
use Rattle.immediates.specs.Modified.{copies}
use Rattle.lanes.specs.Lane.{lanes_of}
use Rattle.arithmetic.specs.Whole.{inverted}
use Rattle.operations.specs.declared.BitOp.{BitOp}
use Rattle.operations.specs.declared.BitOp.TheVariants.{And, Orr, Eor, Bic, Orn, Mov, Bsl, Bit, Bif}
use Rattle.operations.specs.declared.ConstantOp.{ConstantOp}
use Rattle.operations.specs.declared.ConstantOp.TheVariants as constant
use Rattle.operations.specs.declared.Operation.{Operation}
use Rattle.operations.specs.declared.Operation.TheVariants.{Lanes, Bits, Constant}

abbrev pub bitwise : ℕ → BitOp → ℕ → ℕ → ℕ → ℕ
bitwise size And d n m = bit_and n m
bitwise size Orr d n m = bit_or n m
bitwise size Eor d n m = bit_xor n m
bitwise size Bic d n m = bit_and n (inverted size m)
bitwise size Orn d n m = bit_or n (inverted size m)
bitwise size Mov d n m = n
bitwise size Bsl d n m = bit_or (bit_and n d) (bit_and m (inverted size d))
bitwise size Bit d n m = bit_or (bit_and n m) (bit_and d (inverted size m))
bitwise size Bif d n m = bit_or (bit_and d m) (bit_and n (inverted size m))

-- a constant p: vmov sets it, vmvn sets its complement, vorr and vbic change d
abbrev pub with_constant : ℕ → ConstantOp → ℕ → ℕ → ℕ
with_constant size constant.Mov p d = p
with_constant size constant.Mvn p d = inverted size p
with_constant size constant.Orr p d = bit_or d p
with_constant size constant.Bic p d = bit_and d (inverted size p)

-- a constant has 64 bits, and is repeated in a quadword
unfoldable pub result_of : ℕ → Operation → ℕ → ℕ → ℕ → ℕ
result_of size (Lanes op w) d n m = lanes_of size op w d n m
result_of size (Bits op) d n m = bitwise size op d n m
result_of size (Constant op p) d n m = with_constant size op (copies (size / 64) 64 p) d

-- an operation whose constant, if it has one, is of 64 bits
abbrev pub Sized : Operation → Type 0
Sized (Lanes op w) = Unit
Sized (Bits op) = Unit
Sized (Constant op p) = p < 2 ^ 64
