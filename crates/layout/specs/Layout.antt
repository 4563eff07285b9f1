-- A table laid out for a search from a plan.
use Rattle.std.specs.Prelude.{ℕ, ◌+◌, ◌-◌, ◌≤◌, ◌<◌, ◌≡◌, List, length, get_or, replicate}
use Rattle.diagram.specs.Table.{Table}
use Rattle.diagram.specs.Plans.{open_taken, upper_bound}
use Rattle.decoding.specs.declared.table.Decoded.{Decoded}
use Rattle.decoding.specs.Decoding.{table_in}
use Rattle.weighing.specs.Value.{node_position}
use Rattle.weighing.specs.Weights.{table_arcs, roots_of}
use Rattle.valuing.specs.Passes.{marks_by_position, losses_of}
use Rattle.valuing.specs.Valued.{node_values}
use Rattle.ordering.specs.Chains.{joined, in_buffer, beginnings, nodes_at}
use Rattle.layers.specs.declared.arcs.LaidArcs.{LaidArcs}
use Rattle.layout.specs.Flows.{Layered, rank_sum, at_sum}
use Rattle.layout.specs.Weighed.{LaidTable, by_rank}
use Rattle.layout.specs.declared.Layout.{Layout}

-- The nodes of a decoded table in order of position
abbrev pub nodes_in_order : Decoded → List ℕ
nodes_in_order d = in_buffer (joined (nodes_at d.positions d.records) (length (table_in d).variables))

-- ends[x] is how many nodes of the order stand before position x: ranks below it are at smaller positions, those from ends[x] to ends[x + 1] at x, and the
-- others later
pub record Ending (t : Table) (order ends : List ℕ) : Type 0 where
  pub rising : (x y : ℕ) → x ≤ y → y ≤ length t.variables → get_or ends x 0 ≤ get_or ends y 0
  pub within : (x : ℕ) → x ≤ length t.variables → get_or ends x 0 ≤ length t.records
  pub before : (x j : ℕ) → x ≤ length t.variables → j < get_or ends x 0 → node_position t (get_or order j 0) < x
  pub here : (x j : ℕ) → x < length t.variables → get_or ends x 0 ≤ j → j < get_or ends (x + 1) 0 → node_position t (get_or order j 0) ≡ x
  pub after : (x j : ℕ) → x ≤ length t.variables → get_or ends x 0 ≤ j → j < length t.records → x ≤ node_position t (get_or order j 0)
  pub sums : (x : ℕ) → x < length t.variables → (f : ℕ → ℕ) → rank_sum (λ j. f (get_or order j 0)) (get_or ends x 0) (get_or ends (x + 1) 0 - get_or ends x 0) ≡ at_sum t f x (length t.records)

-- The arrays hold table t, laid out for a search from plan p, whose bound it is
pub record Arranged (t : Table) (p : List ℕ) (bound : ℕ) (ends order : List ℕ) (l : LaidArcs) (losses : List ℕ) : Type 0 where
  pub bounded : bound ≡ upper_bound t p
  pub layered : Layered t p order l losses
  pub ending : Ending t order ends

-- A layout is that of table t for a search from plan p
pub record LaidOut (t : Table) (p : List ℕ) (l : Layout) : Type 0 where
  pub order : List ℕ
  pub arranged : Arranged t p l.bound l.ends order l.arcs l.losses

-- The weights of a decoded table's arcs, by the arcs' numbers
abbrev pub arc_weights : Decoded → List ℕ
arc_weights d = table_arcs (table_in d) d.records (replicate 544 0)

-- What leaving its line loses at each node of a decoded table under a plan with all open lines taken, by node
abbrev pub node_losses : Decoded → (plan : List ℕ) → List ℕ
node_losses d p =
    losses_of d.low (arc_weights d) (node_values (table_in d) (open_taken p) d.records (replicate 256 0)) d.records

-- Every cell of a layout, used or not
pub record EveryCell (d : Decoded) (p : List ℕ) (l : Layout) : Type 0 where
  pub bound : l.bound ≡ upper_bound (table_in d) p
  pub ends : l.ends ≡ beginnings (nodes_at d.positions d.records) d.variables
  pub laid : LaidTable d (roots_of (table_in d)) (arc_weights d) (marks_by_position (table_in d).variables p) (nodes_in_order d) l.arcs
  pub losses : l.losses ≡ by_rank (nodes_in_order d) (node_losses d p) d.records
