-- What a table and a plan come to in arrays.
use Rattle.std.specs.Prelude.{ℕ, ◌+◌, ◌≤◌, ◌≡◌, List, length, get_or, replicate}
use Rattle.diagram.specs.Table.{Table, sequence, choice_count}
use Rattle.diagram.specs.Plans.{open_taken, upper_bound}
use Rattle.decoding.specs.declared.table.Decoded.{Decoded}
use Rattle.decoding.specs.Decoding.{table_in}
use Rattle.arrays.specs.Arrays.{over}
use Rattle.weighing.specs.Value.{value}
use Rattle.weighing.specs.Weights.{table_arcs, roots_of}
use Rattle.valuing.specs.Passes.{marks_by_position, plan_arcs}
use Rattle.valuing.specs.declared.bound.PlanValue.{PlanValue}

-- A plan that checks 21 and 22 let through: a byte for each choice of the table, none above 2
abbrev pub Legal : Decoded → (plan : List ℕ) → Type 0
Legal d p = (length p ≡ choice_count (table_in d).variables) × ((i : ℕ) → get_or p i 0 ≤ 2)

-- The values of the ends and of the first n records' nodes under a full plan, by node
abbrev pub node_values : Table → (plan : List ℕ) → (records : ℕ) → (old : List ℕ) → List ℕ
node_values t u n old = over (sequence (value t u) 0 (n + 2)) old

-- The arrays that a pass fills are zeros
abbrev pub Blank : PlanValue → Type 0
Blank r = (r.arcs ≡ replicate 544 0) × (r.weights ≡ replicate 544 0) × (r.values ≡ replicate 256 0)

-- The weights of a table's arcs; with all open lines of plan p taken, the weights of the arcs in force and the values of the nodes; and p's bound, the
-- table's roots and p's marks
pub record Valued (d : Decoded) (p : List ℕ) (r : PlanValue) : Type 0 where
  pub arcs : r.arcs ≡ table_arcs (table_in d) d.records (replicate 544 0)
  pub in_force : r.weights ≡ plan_arcs (table_in d) (open_taken p) d.records (replicate 544 0)
  pub values : r.values ≡ node_values (table_in d) (open_taken p) d.records (replicate 256 0)
  pub bound : r.bound ≡ upper_bound (table_in d) p
  pub roots : r.roots ≡ roots_of (table_in d)
  pub marks : r.marks ≡ marks_by_position (table_in d).variables p
