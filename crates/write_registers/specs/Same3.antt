-- Writing three registers of the same length: A7.4.1, table A7-9.
-- Assumes nothing.
use Rattle.std.specs.Prelude.{Bool, ℕ, ◌+◌, ◌*◌, eqb}
use Prim.Native.String.{String}
use Rattle.laws.specs.Answer.{Answer, accepted, refused, and_then}
use Rattle.laws.specs.Choice.{choose, both}
use Rattle.insn.specs.declared.Operand.{Operand}
use Rattle.names.specs.Names.{pairwise}
use Rattle.fields.specs.Halfwords.{bit, field, first, second}
use Rattle.read_registers.specs.Same3.{shifts_by_register}
use Rattle.writings.specs.Forms.{Pair, pair, cell_of, as_bit, is_quad, register_in, Three, all_three, numbers}

-- the cell is U:opc:B:size; d, n and m are D:Vd, N:Vn and M:Vm
--   hw1  1 1 1 U 1 1 1 1 0 D size Vn      hw2  Vd opc N Q M B Vm
unfoldable pub same3_pair : ℕ → Bool → ℕ → ℕ → ℕ → Pair
same3_pair cell quad d n m =
    pair
    (first (bit 7 cell) 0 (bit 4 d) (field 1 0 cell * 16 + field 3 0 n))
    (second (field 3 0 d) (field 6 3 cell) (bit 4 n) (as_bit quad) (bit 4 m) (bit 2 cell) (field 3 0 m))

-- the operands are Vd, Vn and Vm; shifts by register name Vm before Vn
unfoldable pub same3_form : ℕ → String → Bool → Three → Answer Pair
same3_form cell name quad (numbers a b c) =
    choose (both quad (pairwise name)) (refused 5)
    (accepted (choose (shifts_by_register (field 6 3 cell)) (same3_pair cell quad a c b) (same3_pair cell quad a b c)))

unfoldable pub same3_writing : ℕ → String → ℕ → Operand → Operand → Operand → Answer Pair
same3_writing cell name count a b c =
    choose (eqb count 3)
    (and_then (all_three (register_in (is_quad a) a) (register_in (is_quad a) b) (register_in (is_quad a) c)) (same3_form cell name (is_quad a)))
    (refused 8)

-- VORR stands at U=0 opc=0001 B=1 size=10, and VMOV of a register is VORR with equal sources
abbrev pub vorr_cell : ℕ
vorr_cell = cell_of 0 0b0001 1 0b10

unfoldable pub vmov_writing : ℕ → Operand → Operand → Answer Pair
vmov_writing count a b = choose (eqb count 2) (same3_writing vorr_cell "vorr" 3 a b b) (refused 8)
