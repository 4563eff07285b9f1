-- Document 01, "Scores, drops and passing", with document 02, paper 3: walks and the score of a full plan. Source document 000 has the same, of one root, as
-- its scoring function.
use Rattle.std.specs.Prelude.{ℕ, zero, suc, ◌+◌, ◌-◌, ◌*◌, Bool, true, false, cond, not, ◌&&◌, ◌||◌, get_or, eqb}
use mathlib.Core.List.{List, [], ◌∷◌, ◌++◌, map, tail}
use Rattle.diagram.specs.Table.{Variable, choice, chance, Record, Root, Table, record_at}

-- An assignment settles the variables: its element i is true where the walk goes hi at position i, and false where it goes lo.
-- "A walk starts at the root: a choice taken goes hi, left goes lo; a chance that holds goes hi, else lo."
-- Nodes 0 and 1 are the ends false and true. A walk makes at most `fuel` moves: a child's number is smaller, so n moves are enough from node n.
unfoldable pub walk : (fuel : ℕ) → List Record → List Bool → ℕ → Bool
walk zero rs s n = false
walk (suc fuel) rs s zero = false
walk (suc fuel) rs s (suc zero) = true
walk (suc fuel) rs s (suc (suc k)) =
    walk fuel rs s (cond (get_or s (record_at rs k).position false) (record_at rs k).hi (record_at rs k).lo)

-- Whether the walk from node n ends in true
unfoldable pub truth : List Record → List Bool → ℕ → Bool
truth rs s n = walk n rs s n

-- Whether a mark takes its line
abbrev pub is_taken : ℕ → Bool
is_taken m = eqb m 1

-- "all settlings of all chances": every assignment in which the choices go as the plan's marks say and the chances go either way
unfoldable pub settlings : List Variable → List ℕ → List (List Bool)
settlings [] p = [] ∷ []
settlings (choice ∷ vs) p = map (λ s. is_taken (get_or p 0 0) ∷ s) (settlings vs (tail p))
settlings (chance a b ∷ vs) p = map (λ s. true ∷ s) (settlings vs p) ++ map (λ s. false ∷ s) (settlings vs p)

-- "the product of a for each that holds and b-a for each that does not"
unfoldable pub weight : List Variable → List Bool → ℕ
weight [] s = 1
weight (choice ∷ vs) s = weight vs (tail s)
weight (chance a b ∷ vs) s = cond (get_or s 0 false) a (b - a) * weight vs (tail s)

-- The sum of a list of numbers
unfoldable pub sum : List ℕ → ℕ
sum [] = 0
sum (x ∷ xs) = x + sum xs

-- The sum of the weights of the settlings that a test holds of
unfoldable pub total : List Variable → List ℕ → (List Bool → Bool) → ℕ
total vs p test = sum (map (λ s. cond (test s) (weight vs s) 0) (settlings vs p))

-- A root's score: the weighted count of the settlings whose walk from node n ends in true
unfoldable pub score_from : Table → List ℕ → ℕ → ℕ
score_from t p n = total t.variables p (λ s. truth t.records s n)

-- The sum, over some roots, of the reward times a number of the root's node
unfoldable pub rewarded : (ℕ → ℕ) → List Root → ℕ
rewarded number [] = 0
rewarded number (r ∷ rs) = r.reward * number r.node + rewarded number rs

-- "The score of a full plan is the sum, over all settlings of all chances whose walk ends in true, of the product": that of one root. Paper 3: "The
-- score is the sum of reward times that root's score"; "a node named twice counts twice".
unfoldable pub score : Table → List ℕ → ℕ
score t p = rewarded (score_from t p) t.roots

-- Every assignment of v variables
unfoldable pub assignments : ℕ → List (List Bool)
assignments zero = [] ∷ []
assignments (suc v) = map (λ s. true ∷ s) (assignments v) ++ map (λ s. false ∷ s) (assignments v)

-- Whether a test holds of every element of a list
unfoldable pub every : {A : Type 0} → (A → Bool) → List A → Bool
every test [] = true
every test (x ∷ xs) = test x && every test xs

-- "each settling of all variables that leads from [m] to true also leads from [n] to true", of v variables
unfoldable pub implies : ℕ → List Record → ℕ → ℕ → Bool
implies v rs m n = every (λ s. not (truth rs s m) || truth rs s n) (assignments v)
