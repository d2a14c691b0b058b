use mathlib.Core.Bool.{true, false}
use mathlib.Core.Path.{sym, ◌∙◌}
use Rattle.floats.proofs.Found.{found-by, no_nan}
use Rattle.floats.proofs.float_imm8.Goals as goal

pub returns-then-is_nan : goal.returns-then-is_nan
returns-then-is_nan c = sym (no_nan c.args.x (sym c.is_nan.ensures.value ∙ c.if-is_nan.true))

pub returns-then-imm_float-x : goal.returns-then-imm_float-x
returns-then-imm_float-x c = found-by c.args.x c.well_formed.0.1 true c.imm_float.ensures c.if-imm_float-x.true

pub returns-else-imm_float-x : goal.returns-else-imm_float-x
returns-else-imm_float-x c = found-by c.args.x c.well_formed.0.1 false c.imm_float.ensures c.if-imm_float-x.false
