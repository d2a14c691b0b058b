use Rattle.names.specs.Names.{names, codes}
use Rattle.names.proofs.Spellings.{laid-byte}
use Rattle.names.proofs.table.Goals as goal

pub returns : goal.returns
unfolding names codes
returns c = record { bytes = laid-byte }
