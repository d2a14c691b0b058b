-- The promises of specs/Promises.antt.
-- Assumes nothing.
use mathlib.Core.Path.{refl, ap}
use Rattle.laws.specs.Search.{first_from}
use Rattle.laws.proofs.Never.{never}
use Rattle.names.specs.Names.{codes}
use Rattle.steps.specs.Sets.{set_of}
use Rattle.text.specs.Text.{digits, decimal}
use Rattle.std.specs.Prelude.{Some, None}
use Rattle.row_list.specs.Lists.{row_named, rows_named, rows_listed}
use Rattle.row_list.specs.Promises.{ListsApart, WorkedLists}

pub lists_apart : ListsApart
lists_apart (Some a) (Some b) e = ap Some (cc)
lists_apart (Some a) None e = never (cc)
lists_apart None (Some b) e = never (cc)
lists_apart None None e = refl

pub worked_lists : WorkedLists
unfolding row_named rows_named rows_listed set_of codes digits decimal first_from
worked_lists = (refl, refl, refl, refl, refl, refl, refl, refl, refl, refl, refl, refl, refl)
