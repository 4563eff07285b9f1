-- Document 01, "Scores, drops and passing": plans and their completions, the top, the drops, passing and forced lines.
-- Passing is as document 02, paper 1, has it, and the cost as paper 2 has it. A plan is a list of marks, one a choice: 0 open, 1 taken, 2 left.
use Rattle.std.specs.Prelude.{ℕ, zero, suc, ◌+◌, ◌-◌, ◌*◌, ◌≡◌, Bool, cond, not, ◌&&◌, List, [], ◌∷◌, ◌++◌, map, length, get_or, set, eqb, leb}
use Rattle.diagram.specs.Table.{Table, sequence, scale}
use Rattle.diagram.specs.Score.{is_taken, score, every}

-- "A way of settling a plan's open lines, or completion, is a full plan with each open line made taken or left and every other mark kept"
unfoldable pub completions : List ℕ → List (List ℕ)
completions [] = [] ∷ []
completions (zero ∷ p) = map (λ c. 1 ∷ c) (completions p) ++ map (λ c. 2 ∷ c) (completions p)
completions (suc m ∷ p) = map (λ c. suc m ∷ c) (completions p)

-- The elements of `completions`, each by its marks
pub data Completes : List ℕ → List ℕ → Type 0 where
  complete : Completes [] []
  takes : {p c : List ℕ} → Completes p c → Completes (0 ∷ p) (1 ∷ c)
  leaves_open : {p c : List ℕ} → Completes p c → Completes (0 ∷ p) (2 ∷ c)
  keeps : {m : ℕ} {p c : List ℕ} → Completes p c → Completes (suc m ∷ p) (suc m ∷ c)

-- The plan with all open lines taken
unfoldable pub open_taken : List ℕ → List ℕ
open_taken [] = []
open_taken (zero ∷ p) = 1 ∷ open_taken p
open_taken (suc m ∷ p) = suc m ∷ open_taken p

-- How many lines are open
unfoldable pub open_count : List ℕ → ℕ
open_count [] = 0
open_count (zero ∷ p) = suc (open_count p)
open_count (suc m ∷ p) = open_count p

-- The sum of the kits of the lines that a plan takes, the kits by choice number
unfoldable pub cost_of : (kits plan : List ℕ) → ℕ
cost_of kits [] = 0
cost_of [] (m ∷ p) = 0
cost_of (k ∷ kits) (m ∷ p) = cond (is_taken m) k 0 + cost_of kits p

-- What a plan costs in a table. Document 02, paper 2: "Ranking, candidates, visit rule and the printed kits all read the sum of kits where they read the
-- number of lines."
unfoldable pub cost : Table → List ℕ → ℕ
cost t p = cost_of t.kits p

-- Whether choice i of a plan is open
unfoldable pub is_open : List ℕ → ℕ → Bool
is_open p i = eqb (get_or p i 1) 0

-- "leaves a line when that line's byte is 2": whether a full plan leaves choice i
unfoldable pub leaves : List ℕ → ℕ → Bool
leaves p i = eqb (get_or p i 0) 2

-- The top: "the score with all open lines taken"
unfoldable pub upper_bound : Table → List ℕ → ℕ
upper_bound t p = score t (open_taken p)

-- The drop of choice i: "the top less the score with it left and the other open lines taken; for a line not open it is 0"
unfoldable pub derivative : Table → List ℕ → ℕ → ℕ
derivative t p i = cond (is_open p i) (upper_bound t p - score t (open_taken (set p i 2))) 0

-- The drops of all choices, by choice number
unfoldable pub derivatives : Table → List ℕ → List ℕ
derivatives t p = sequence (derivative t p) 0 (length p)

-- Whether a score passes percent p: "100 times the score is not less than p times B, in filter, search and visit rule alike"
unfoldable pub passes : Table → (percent : ℕ) → ℕ → Bool
passes t percent x = leb (percent * scale t) (100 * x)

-- The least score that passes: every score passes exactly when it is not less
abbrev pub LeastPassing : Table → (percent least : ℕ) → Type 0
LeastPassing t percent least = (x : ℕ) → passes t percent x ≡ leb least x

-- Whether a test holds of no element of a list
unfoldable pub none_of : {A : Type 0} → (A → Bool) → List A → Bool
none_of test xs = every (λ x. not (test x)) xs

-- A full plan passes when its score does
unfoldable pub passing : Table → (percent : ℕ) → List ℕ → Bool
passing t percent c = passes t percent (score t c)

-- A line is forced when it is open and no passing completion leaves it
unfoldable pub forced : Table → (percent : ℕ) → List ℕ → ℕ → Bool
forced t percent p i = is_open p i && none_of (λ c. passing t percent c && leaves c i) (completions p)

-- "the plan with forced lines taken"
unfoldable pub forced_plan : Table → (percent : ℕ) → List ℕ → List ℕ
forced_plan t percent p = sequence (λ i. cond (forced t percent p i) 1 (get_or p i 0)) 0 (length p)

-- How many of the numbers below n a test holds of
unfoldable pub count_of : (ℕ → Bool) → ℕ → ℕ
count_of test zero = 0
count_of test (suc n) = count_of test n + cond (test n) 1 0

-- "how many lines it forced"
unfoldable pub forced_count : Table → (percent : ℕ) → List ℕ → ℕ
forced_count t percent p = count_of (forced t percent p) (length p)
