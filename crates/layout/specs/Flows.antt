-- What a layout holds of a table and the plan that a search starts from, and what the cells hold of the plan that is visited.
use Rattle.std.specs.Prelude.{ℕ, zero, suc, ◌+◌, ◌-◌, ◌*◌, ◌≤◌, ◌<◌, ◌^◌, ◌≡◌, true, cond, List, length, get_or, take, eqb}
use Rattle.diagram.specs.Table.{Table, chance, record_at, is_choice, choice_count, scale_of, scale}
use Rattle.diagram.specs.Plans.{open_taken, is_open}
use Rattle.diagram.specs.Visits.{lowest_open}
use Rattle.diagram.specs.Validity.{Formed, BoundedShares, Monotone}
use Rattle.weighing.specs.Value.{node_position, value, variable_at, high_weight, low_weight, high_arc, low_arc}
use Rattle.valuing.specs.Passes.{mark_of, high_in_force, low_in_force}
use Rattle.derivatives.specs.Down.{root_weight}
use Rattle.decoding.specs.Decoding.{Rooted}
use Rattle.layout.specs.Weights.{path_weight, into}
use Rattle.layers.specs.Cells.{high_cell, low_cell, root_cell}
use Rattle.layers.specs.declared.arcs.LaidArcs.{LaidArcs}
use Rattle.layers.specs.Layers.{Sized, inflow}

-- ---------------------------------------------------------------------------
-- The plan handed in

-- The weights of record k's arcs during a search from plan s: 0 where s closes the arc
unfoldable pub high_at : Table → (s : List ℕ) → (k : ℕ) → ℕ
high_at t s k = high_in_force (mark_of t.variables s (record_at t.records k).position) (high_arc t k)

unfoldable pub low_at : Table → (s : List ℕ) → (k : ℕ) → ℕ
low_at t s k = low_in_force (mark_of t.variables s (record_at t.records k).position) (low_arc t k)

-- ---------------------------------------------------------------------------
-- The layout

-- x is the position of choice number i of a table
pub record Stand (t : Table) (i x : ℕ) : Type 0 where
  pub within : x < length t.variables
  pub chosen : is_choice (get_or t.variables x (chance 0 1)) ≡ true
  pub number : choice_count (take x t.variables) ≡ i

-- The layout is that of table t and a search from plan s, with the nodes in `order`: those at smaller positions come before. What comes to a node is what
-- the table's arcs bring, of which `high` and `low` say what they bring where the cells of the nodes before are right. The loss of an open line's record
-- is what its value falls by.
pub record Layered (t : Table) (s order : List ℕ) (l : LaidArcs) (losses : List ℕ) : Type 0 where
  pub formed : Formed (length t.variables) t.records
  pub shares : BoundedShares t.variables
  pub monotone : Monotone t
  pub bounded : scale_of t.variables ≤ 2 ^ 56
  pub scaled : scale t ≤ 2 ^ 56
  pub rooted : Rooted t
  pub some : 1 ≤ length t.records
  pub plan : length s ≡ choice_count t.variables
  pub legal : (i : ℕ) → get_or s i 0 ≤ 2
  pub sized : Sized l (length t.records)
  pub nodes : (i : ℕ) → i < length t.records → ((k : ℕ) × (k < length t.records) × (get_or order i 0 ≡ k + 2))
  pub inflows : (cells : List ℕ) → get_or cells root_cell 0 ≡ 1 → (high low : ℕ → ℕ) (i : ℕ) → i < length t.records → ((j k : ℕ) → j < i → get_or order j 0 ≡ k + 2 → (get_or cells (high_cell j) 0 * high_at t s k ≡ high k) × (get_or cells (low_cell j) 0 * low_at t s k ≡ low k)) → inflow l cells i ≡ root_weight t (get_or order i 0) (length t.roots) + into (λ k. (record_at t.records k).hi) (λ k. (record_at t.records k).lo) high low (get_or order i 0) (length t.records)
  pub lost : (i k : ℕ) → i < length t.records → get_or order i 0 ≡ k + 2 → is_choice (variable_at t k) ≡ true → is_open s (choice_count (take (record_at t.records k).position t.variables)) ≡ true → get_or losses i 0 ≡ value t (open_taken s) (k + 2) - low_arc t k * value t (open_taken s) (record_at t.records k).lo

-- The sum of f over n ranks from i on
unfoldable pub rank_sum : (f : ℕ → ℕ) → (i n : ℕ) → ℕ
rank_sum f i zero = 0
rank_sum f i (suc n) = rank_sum f i n + f (i + n)

-- The sum of f over the nodes of the first n records that stand at position x
unfoldable pub at_sum : Table → (f : ℕ → ℕ) → (x n : ℕ) → ℕ
at_sum t f x zero = 0
at_sum t f x (suc k) = at_sum t f x k + cond (eqb (record_at t.records k).position x) (f (k + 2)) 0

-- The layer of line d, open in plan s: the nodes before `own` stand before its position, those from `own` to `to` at it, and those from `from` to `own`
-- are of no line that is open in s
pub record Line (t : Table) (s order : List ℕ) (from own to d : ℕ) : Type 0 where
  pub position : ℕ
  pub stand : Stand t d position
  pub bounds : (from ≤ own) × (own ≤ to) × (to ≤ length t.records)
  pub before : (j : ℕ) → j < own → node_position t (get_or order j 0) < position
  pub here : (j : ℕ) → own ≤ j → j < to → node_position t (get_or order j 0) ≡ position
  pub plain : (j : ℕ) → from ≤ j → j < own → mark_of t.variables s (node_position t (get_or order j 0)) ≡ 0 → ⊥
  pub covers : (f : ℕ → ℕ) → rank_sum (λ j. f (get_or order j 0)) own (to - own) ≡ at_sum t f position (length t.records)

-- ---------------------------------------------------------------------------
-- The plan visited

-- Plan p settles lines that are open in s, the lowest ones first: every other mark is that of s
pub record Settles (s p : List ℕ) : Type 0 where
  pub size : length p ≡ length s
  pub kept : (i : ℕ) → (get_or s i 0 ≡ 0 → ⊥) → get_or p i 0 ≡ get_or s i 0
  pub later : (i : ℕ) → lowest_open p ≤ i → get_or p i 0 ≡ get_or s i 0

-- The cells of the first i nodes hand on their path weights under the full plan u, along the arcs that are in force
pub record Right (t : Table) (s u order : List ℕ) (i : ℕ) (cells : List ℕ) : Type 0 where
  pub high : (j k : ℕ) → j < i → get_or order j 0 ≡ k + 2 → get_or cells (high_cell j) 0 * high_at t s k ≡ path_weight t u (k + 2) * high_weight t u k
  pub low : (j k : ℕ) → j < i → get_or order j 0 ≡ k + 2 → get_or cells (low_cell j) 0 * low_at t s k ≡ path_weight t u (k + 2) * low_weight t u k

-- The cells of the first i nodes, and that of the roots' arcs, are the same
pub record Same (i : ℕ) (cells cells' : List ℕ) : Type 0 where
  pub high : (j : ℕ) → j < i → get_or cells' (high_cell j) 0 ≡ get_or cells (high_cell j) 0
  pub low : (j : ℕ) → j < i → get_or cells' (low_cell j) 0 ≡ get_or cells (low_cell j) 0
  pub root : get_or cells' root_cell 0 ≡ get_or cells root_cell 0
