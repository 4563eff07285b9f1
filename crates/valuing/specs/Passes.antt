-- What the arrays of a pass hold. Arrays by node number have the two ends first, arrays by position one entry for each position up to 63; the weights of
-- arcs stand by the arcs' numbers.
use Rattle.std.specs.Prelude.{ℕ, zero, suc, ◌+◌, ◌-◌, ◌*◌, ◌≤◌, ◌<◌, ◌^◌, ◌≡◌, cond, List, [], ◌∷◌, ◌++◌, length, get_or, take, drop, replicate, eqb}
use Rattle.diagram.specs.Table.{Variable, Table, Record, chance, sequence, record_at, is_choice, choice_count, scale_of, scale}
use Rattle.diagram.specs.Validity.{Formed, BoundedShares}
use Rattle.decoding.specs.Nodes.{column}
use Rattle.ordering.specs.Numbers.{high_arc_number, low_arc_number, low_arc_of, low_offset}
use Rattle.arrays.specs.Arrays.{over, by_node}
use Rattle.weighing.specs.declared.roots.Roots.{Roots}
use Rattle.weighing.specs.Value.{value, high_weight, low_weight, high_arc, low_arc}
use Rattle.weighing.specs.Weights.{arcs_over}

-- ---------------------------------------------------------------------------
-- Marks

-- The mark at a chance, which no plan has
abbrev pub chance_mark : ℕ
chance_mark = 3

-- The mark at position x: a choice's own, or a chance's, both of whose arcs are in force
unfoldable pub mark_of : List Variable → (plan : List ℕ) → (x : ℕ) → ℕ
mark_of vs p x = cond (is_choice (get_or vs x (chance 0 1))) (get_or (drop (choice_count (take x vs)) p) 0 0) chance_mark

-- The marks at all positions
unfoldable pub marks_by_position : List Variable → (plan : List ℕ) → List ℕ
marks_by_position vs p = sequence (mark_of vs p) 0 64

-- A mark, with an open line taken
unfoldable pub taken_mark : (mark : ℕ) → ℕ
taken_mark m = cond (eqb m 0) 1 m

-- Marks by position, with open lines taken
unfoldable pub taken_marks : (marks : List ℕ) → List ℕ
taken_marks ms = sequence (λ x. taken_mark (get_or ms x 0)) 0 64

-- The mark of record k, from the arrays
unfoldable pub mark_at_record : (positions marks : List ℕ) → (k : ℕ) → ℕ
mark_at_record ps ms k = get_or ms (get_or ps (k + 2) 0) 0

-- ---------------------------------------------------------------------------
-- The arcs in force

-- The hi arc is in force unless the line is left
unfoldable pub high_in_force : (mark arc : ℕ) → ℕ
high_in_force m w = cond (eqb m 2) 0 w

-- The lo arc is in force unless the line is taken
unfoldable pub low_in_force : (mark arc : ℕ) → ℕ
low_in_force m w = cond (eqb m 1) 0 w

-- The weights in force of record k's arcs
abbrev pub high_in_force_at : (positions marks arcs : List ℕ) → (k : ℕ) → ℕ
high_in_force_at ps ms ws k = high_in_force (mark_at_record ps ms k) (get_or ws (high_arc_number k) 0)

abbrev pub low_in_force_at : (positions marks arcs : List ℕ) → (k : ℕ) → ℕ
low_in_force_at ps ms ws k = low_in_force (mark_at_record ps ms k) (get_or ws (low_arc_number k) 0)

-- The weights in force of the first n records' arcs
abbrev pub arcs_in_force : (positions marks arcs : List ℕ) → (records : ℕ) → (old : List ℕ) → List ℕ
arcs_in_force ps ms ws n old = arcs_over (high_in_force_at ps ms ws) (low_in_force_at ps ms ws) n old

-- The weights of the arcs of a table's first n records under a full plan
abbrev pub plan_arcs : Table → (plan : List ℕ) → (records : ℕ) → (old : List ℕ) → List ℕ
plan_arcs t u n old = arcs_over (high_weight t u) (low_weight t u) n old

-- ---------------------------------------------------------------------------
-- The pass up

-- The children of each node, and the weights of the arcs in force
pub record Arcs : Type 0 where
  pub high : List ℕ
  pub low : List ℕ
  pub high_weights : List ℕ
  pub low_weights : List ℕ

-- The same with the weights by arc number
abbrev pub arcs_of : (high low weights : List ℕ) → Arcs
arcs_of hs ls ws = record { high = hs; low = ls; high_weights = ws; low_weights = drop low_offset ws }

-- The value of node n from those of the nodes before it
unfoldable pub node_value : Arcs → (n : ℕ) → (values : List ℕ) → ℕ
node_value a n vs =
    get_or a.high_weights n 0 * get_or vs (get_or a.high n 0) 0 + get_or a.low_weights n 0 * get_or vs (get_or a.low n 0) 0

-- The values of the ends and of the first n records' nodes
unfoldable pub pass_up : Arcs → (records : ℕ) → List ℕ
pass_up a zero = 0 ∷ 1 ∷ []
pass_up a (suc k) = pass_up a k ++ node_value a (k + 2) (pass_up a k) ∷ []

-- Every value stays within 2^56, and children have smaller numbers
pub record Fits (a : Arcs) (n : ℕ) : Type 0 where
  pub fits : (k : ℕ) → k < n → node_value a (k + 2) (pass_up a k) ≤ 2 ^ 56
  pub high_less : (k : ℕ) → k < n → get_or a.high (k + 2) 0 < k + 2
  pub low_less : (k : ℕ) → k < n → get_or a.low (k + 2) 0 < k + 2

-- The sum, over the first i roots, of what comes to a root times its node's value
unfoldable pub root_sum : Roots → (values : List ℕ) → (i : ℕ) → ℕ
root_sum rs vs zero = 0
root_sum rs vs (suc i) = root_sum rs vs i + get_or rs.weights i 0 * get_or vs (get_or rs.nodes i 0) 0

-- ---------------------------------------------------------------------------
-- Losses

-- What leaving its line loses of record k's value under a full plan: all but what comes by the lo arc
abbrev pub record_loss : Table → (plan : List ℕ) → (k : ℕ) → ℕ
record_loss t u k = value t u (k + 2) - low_arc t k * value t u (record_at t.records k).lo

-- What leaving its line loses of node m's value, from the arrays
unfoldable pub loss_of : (low arcs values : List ℕ) → (m : ℕ) → ℕ
loss_of ls ws vs m = get_or vs m 0 - get_or ws (low_arc_of m) 0 * get_or vs (get_or ls m 0) 0

-- What node m's value has by its lo arc is no more than the value, which fits
abbrev pub LossFits : (low arcs values : List ℕ) → (m : ℕ) → Type 0
LossFits ls ws vs m = (get_or ws (low_arc_of m) 0 * get_or vs (get_or ls m 0) 0 ≤ get_or vs m 0) × (get_or vs m 0 ≤ 2 ^ 56)

-- The losses of the first n records' nodes, by node
abbrev pub losses_of : (low arcs values : List ℕ) → (records : ℕ) → List ℕ
losses_of ls ws vs n = over (by_node (λ k. loss_of ls ws vs (k + 2)) n) (replicate 256 0)

-- ---------------------------------------------------------------------------
-- A table and a plan in arrays

-- The arrays hold table t's records and arcs and the marks of plan p: what the values of t's nodes under p are computed from
pub record Marked (t : Table) (p : List ℕ) (n : ℕ) (ps hs ls ws ms : List ℕ) : Type 0 where
  pub formed : Formed (length t.variables) t.records
  pub shares : BoundedShares t.variables
  pub bounded : scale_of t.variables ≤ 2 ^ 56
  pub scaled : scale t ≤ 2 ^ 56
  pub few : length t.variables < 64
  pub size : (n ≡ length t.records) × (n ≤ 254)
  pub positions : ps ≡ column (length t.variables) (λ (r : Record). r.position) t.records
  pub high : hs ≡ column 0 (λ (r : Record). r.hi) t.records
  pub low : ls ≡ column 0 (λ (r : Record). r.lo) t.records
  pub high_arcs : (k : ℕ) → k < n → get_or ws (high_arc_number k) 0 ≡ high_arc t k
  pub low_arcs : (k : ℕ) → k < n → get_or ws (low_arc_number k) 0 ≡ low_arc t k
  pub marks : ms ≡ marks_by_position t.variables p
  pub plan : length p ≡ choice_count t.variables
  pub legal : (i : ℕ) → get_or p i 0 ≤ 2
