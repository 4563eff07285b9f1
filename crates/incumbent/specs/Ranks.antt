-- The ranking of two plans by what a search holds of each: its score, its room and its marks.
use Rattle.std.specs.Prelude.{ℕ, Bool, ◌&&◌, ◌||◌, List, eqb, ltb}
use Rattle.diagram.specs.Ranking.{takes_first}

-- A plan's score, room and marks rank before another's
unfoldable pub ranks_over : (score room : ℕ) → List ℕ → (score room : ℕ) → List ℕ → Bool
ranks_over x r p y s q = ltb y x || eqb x y && (ltb s r || eqb r s && takes_first p q)
