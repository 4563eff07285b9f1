-- Document 01, "Ranking and visits": the ranking, the candidates and the first of them.
use Rattle.std.specs.Prelude.{ℕ, Bool, false, cond, ◌&&◌, ◌||◌, eqb, ltb, leb}
use mathlib.Core.List.{List, [], ◌∷◌, foldl}
use Rattle.std.proofs.Math.Option.{Option, none, some}
use Rattle.diagram.specs.Table.{Table}
use Rattle.diagram.specs.Score.{score, is_taken}
use Rattle.diagram.specs.Plans.{completions, cost, passing}

-- "at the lowest choice number where two differ, the one that takes it"
unfoldable pub takes_first : List ℕ → List ℕ → Bool
takes_first [] q = false
takes_first (m ∷ p) [] = false
takes_first (m ∷ p) (n ∷ q) = cond (eqb m n) (takes_first p q) (is_taken m)

-- "Ranking: higher score; then fewer lines taken; then, at the lowest choice number where two differ, the one that takes it", where the sum of kits is read
-- for the number of lines
unfoldable pub ranks_before : Table → List ℕ → List ℕ → Bool
ranks_before t p q =
    ltb (score t q) (score t p)
    || eqb (score t p) (score t q) && (ltb (cost t p) (cost t q) || eqb (cost t p) (cost t q) && takes_first p q)

-- The one of two that ranks first, where the first of them may be missing
unfoldable pub better : Table → Option (List ℕ) → List ℕ → Option (List ℕ)
better t none c = some c
better t (some b) c = some (cond (ranks_before t c b) c b)

-- The first of a list of plans in the ranking
unfoldable pub first_ranked : Table → List (List ℕ) → Option (List ℕ)
first_ranked t cs = foldl (better t) none cs

-- "Candidates finish the plan, take at most that many lines (those already taken included) and pass", where the sum of kits is read for the number of lines
unfoldable pub is_candidate : Table → (budget percent : ℕ) → List ℕ → Bool
is_candidate t budget percent c = leb (cost t c) budget && passing t percent c

-- The elements of a list that a test holds of, in order
unfoldable pub select : {A : Type 0} → (A → Bool) → List A → List A
select test [] = []
select test (x ∷ xs) = cond (test x) (x ∷ select test xs) (select test xs)

-- "the first, in document 01's ranking, of all plans that finish the one given, stay within the kits and pass the percentage" (demand 2)
unfoldable pub best_plan : Table → (budget percent : ℕ) → List ℕ → Option (List ℕ)
best_plan t budget percent p = first_ranked t (select (is_candidate t budget percent) (completions p))
