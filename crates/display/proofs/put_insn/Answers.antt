use mathlib.Core.List.{map}
use lib.Seq.{append_snoc}
use Rattle.names.specs.Names.{codes, name_of}
use Rattle.display.specs.Operands.{operand_text, with_commas, operands, insn_text}
use Rattle.text.proofs.Writes.{then, reword}
use Rattle.display.proofs.put_insn.Goals as goal

pub returns : goal.returns
unfolding insn_text
returns c =
    let i = c.args.i in
    reword (append_snoc (codes (name_of i.mnemonic)) 32 (with_commas (map operand_text (operands i)))) (then c.put_name.ensures c.put_operands.ensures)
