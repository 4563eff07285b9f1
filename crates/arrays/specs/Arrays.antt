-- Lists that stand in arrays.
use Rattle.std.specs.Prelude.{ℕ, List, ◌∷◌, ◌++◌, length, drop}
use Rattle.diagram.specs.Table.{sequence}

-- A list written over the front of another
unfoldable pub over : List ℕ → List ℕ → List ℕ
over new old = new ++ drop (length new) old

-- A number for each record, at its node, with zeros for the ends
unfoldable pub by_node : (ℕ → ℕ) → (records : ℕ) → List ℕ
by_node f n = 0 ∷ 0 ∷ sequence f 0 n
