-- The open lines of a plan.
use Rattle.std.specs.Prelude.{ℕ, zero, suc, List, [], ◌∷◌, take}
use Rattle.terms.specs.declared.plan.Plan.{Plan}

-- The marks of a plan that are in use
abbrev pub rows : Plan → List ℕ
rows p = take p.count p.marks

-- The numbers of the open lines of the choices from number i on, the lowest first
unfoldable pub open_from : (i : ℕ) → List ℕ → List ℕ
open_from i [] = []
open_from i (zero ∷ p) = i ∷ open_from (suc i) p
open_from i (suc m ∷ p) = open_from (suc i) p

-- The numbers of a plan's open lines
unfoldable pub open_lines : List ℕ → List ℕ
open_lines p = open_from 0 p
