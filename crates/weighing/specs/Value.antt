-- The value of a node: a score counted from the node's own position on. Source document 000 has values and arc weights as v and u, (6.9) to (6.11);
-- here both are whole numbers, and a variable that an arc skips counts in the arc.
use Rattle.std.specs.Prelude.{ℕ, ◌+◌, ◌-◌, ◌*◌, false, cond, List, ◌++◌, length, get_or, take, drop, replicate}
use Rattle.diagram.specs.Table.{Variable, choice, chance, Table, record_at, choice_count, scale_of}
use Rattle.diagram.specs.Score.{is_taken, truth, total, rewarded}
use Rattle.diagram.specs.Checks.{position_of}

-- The position of a node of a table
unfoldable pub node_position : Table → ℕ → ℕ
node_position t n = position_of (length t.variables) t.records n

-- The marks of the choices at position x and after
unfoldable pub marks_from : Table → (x : ℕ) → List ℕ → List ℕ
marks_from t x p = drop (choice_count (take x t.variables)) p

-- The weighted count of the settlings of the chances at position x and after whose walk from node n ends in true
unfoldable pub value_from : Table → (plan : List ℕ) → (x n : ℕ) → ℕ
value_from t p x n = total (drop x t.variables) (marks_from t x p) (λ s. truth t.records (replicate x false ++ s) n)

-- The value of node n: from its own position on
unfoldable pub value : Table → (plan : List ℕ) → ℕ → ℕ
value t p n = value_from t p (node_position t n) n

-- The product of b over the positions from x up to y, y itself not counted
unfoldable pub gap : Table → (x y : ℕ) → ℕ
gap t x y = scale_of (take (y - x) (drop x t.variables))

-- The sum, over the roots, of the reward times b of each variable before the root's node times a number of the node. With the values of nodes under a
-- plan it is the plan's score.
unfoldable pub rooted_sum : Table → (number : ℕ → ℕ) → ℕ
rooted_sum t number = rewarded (λ n. gap t 0 (node_position t n) * number n) t.roots

-- The variable of record k
unfoldable pub variable_at : Table → (k : ℕ) → Variable
variable_at t k = get_or t.variables (record_at t.records k).position (chance 0 1)

-- The mark of record k's variable, where that is a choice
unfoldable pub mark_at : Table → (plan : List ℕ) → (k : ℕ) → ℕ
mark_at t p k = get_or (marks_from t (record_at t.records k).position p) 0 0

-- The share of a variable's hi arc: a of a chance; of a choice 1 where its mark takes the line, else 0
unfoldable pub high_share : Variable → (mark : ℕ) → ℕ
high_share choice m = cond (is_taken m) 1 0
high_share (chance a b) m = a

-- The share of a variable's lo arc: b-a of a chance; of a choice 0 where its mark takes the line, else 1
unfoldable pub low_share : Variable → (mark : ℕ) → ℕ
low_share choice m = cond (is_taken m) 0 1
low_share (chance a b) m = b - a

-- The weight of record k's hi arc under a plan: its share, times b of each variable that the arc skips
unfoldable pub high_weight : Table → (plan : List ℕ) → (k : ℕ) → ℕ
high_weight t p k =
    high_share (variable_at t k) (mark_at t p k) * gap t ((record_at t.records k).position + 1) (node_position t (record_at t.records k).hi)

-- The weight of record k's lo arc under a plan
unfoldable pub low_weight : Table → (plan : List ℕ) → (k : ℕ) → ℕ
low_weight t p k =
    low_share (variable_at t k) (mark_at t p k) * gap t ((record_at t.records k).position + 1) (node_position t (record_at t.records k).lo)

-- The weight of record k's hi arc where it is in force: what does not depend on a plan
unfoldable pub high_arc : Table → (k : ℕ) → ℕ
high_arc t k =
    high_share (variable_at t k) 1 * gap t ((record_at t.records k).position + 1) (node_position t (record_at t.records k).hi)

-- The weight of record k's lo arc where it is in force
unfoldable pub low_arc : Table → (k : ℕ) → ℕ
low_arc t k =
    low_share (variable_at t k) 2 * gap t ((record_at t.records k).position + 1) (node_position t (record_at t.records k).lo)
