-- Promises beyond the contract; proofs/Promises.antt proves each under its name.
-- Assumes nothing.
use Rattle.std.specs.Prelude.{◌≡◌, ℕ, Option}
use Rattle.names.specs.Names.{codes}
use Rattle.row_list.specs.Answers.{list_answer}
use Rattle.row_list.specs.Lists.{listed, no_list, list_of}

-- an answer says which case it is
abbrev pub ListsApart : Type 0
ListsApart = (x y : Option ℕ) → list_answer x ≡ list_answer y → x ≡ y

-- worked texts
abbrev pub WorkedLists : Type 0
WorkedLists =
    (list_of (codes "0,1,2,3,4,5") ≡ listed 63)
    × (list_of (codes "13") ≡ listed 8192)
    × (list_of (codes "13,0,13") ≡ listed 8193)
    × (list_of (codes "none") ≡ listed 0)
    × (list_of (codes "all") ≡ listed 16383)
    × (list_of (codes "") ≡ no_list)
    × (list_of (codes "14") ≡ no_list)
    × (list_of (codes "01") ≡ no_list)
    × (list_of (codes "1,") ≡ no_list)
    × (list_of (codes ",1") ≡ no_list)
    × (list_of (codes "1,,2") ≡ no_list)
    × (list_of (codes " 1") ≡ no_list)
    × (list_of (codes "none,1") ≡ no_list)
