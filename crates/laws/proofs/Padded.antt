-- Lists laid one after the other, each filled up to w places: what stands at place m * w + j.
-- Assumes nothing.
use mathlib.Core.Path.{◌≡◌, refl, ap, ◌∙◌}
use mathlib.Core.List.{List, [], ◌∷◌, ◌++◌}
use Prim.Native.Nat.{ℕ, zero, suc, ◌+◌, ◌*◌, ◌<◌}
use native.Mathlib.Nat.{le_of_suc-le-suc, not-suc-le-zero, zero-mul, zero-add, suc-mul}
use native.Mathlib.Omega.{arith}
use lib.ListN.{length, get_or, get_or-append}
use lib.Seq.{get_or-append-add}

-- the first w of a list, filled up with x
abbrev pub pad : ℕ → ℕ → List ℕ → List ℕ
pad x zero l = []
pad x (suc w) [] = x ∷ pad x w []
pad x (suc w) (a ∷ l) = a ∷ pad x w l

abbrev pub laid : ℕ → ℕ → List (List ℕ) → List ℕ
laid x w [] = []
laid x w (l ∷ ls) = pad x w l ++ laid x w ls

pad-length : (x w : ℕ) (l : List ℕ) → length (pad x w l) ≡ w
pad-length x zero l = refl
pad-length x (suc w) [] = ap suc (pad-length x w [])
pad-length x (suc w) (a ∷ l) = ap suc (pad-length x w l)

pad-at : (x w : ℕ) (l : List ℕ) (j : ℕ) → j < w → get_or (pad x w l) j 0 ≡ get_or l j x
pad-at x zero l j h = absurd (not-suc-le-zero h)
pad-at x (suc w) [] zero h = refl
pad-at x (suc w) [] (suc j) h = pad-at x w [] j (le_of_suc-le-suc h)
pad-at x (suc w) (a ∷ l) zero h = refl
pad-at x (suc w) (a ∷ l) (suc j) h = pad-at x w l j (le_of_suc-le-suc h)

pub laid-at : (x w : ℕ) (ls : List (List ℕ)) (m j : ℕ) → m < length ls → j < w → get_or (laid x w ls) (m * w + j) 0 ≡ get_or (get_or ls m []) j x
laid-at x w [] m j k h = absurd (not-suc-le-zero k)
laid-at x w (l ∷ ls) zero j k h =
    ap (λ (n : ℕ). get_or (pad x w l ++ laid x w ls) n 0) (ap (λ (n : ℕ). n + j) (zero-mul w) ∙ zero-add j)
    ∙ get_or-append (pad x w l) (laid x w ls) 0 j (rw pad-length h)
    ∙ pad-at x w l j h
laid-at x w (l ∷ ls) (suc m) j k h =
    ap (λ (n : ℕ). get_or (pad x w l ++ laid x w ls) n 0) (omega (arith, suc-mul m w, pad-length x w l))
    ∙ get_or-append-add (pad x w l) (laid x w ls) (m * w + j) 0
    ∙ laid-at x w ls m j (le_of_suc-le-suc k) h
