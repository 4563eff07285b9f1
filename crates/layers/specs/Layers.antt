-- A table laid out for a search, and what a visit does with it. The nodes stand in order of position; a node's number in this order is its rank.
use Rattle.std.specs.Prelude.{ℕ, zero, suc, ◌+◌, ◌-◌, ◌*◌, ◌≤◌, ◌<◌, ◌^◌, ◌≡◌, List, get_or, set}
use Rattle.layers.specs.declared.arcs.LaidArcs.{LaidArcs}
use Rattle.layers.specs.declared.ranks.Layer.{Layer}
use Rattle.layers.specs.Cells.{high_cell, low_cell}

-- The layout of n records is within its arrays, and the arcs into each node are pairs
pub record Sized (l : LaidArcs) (n : ℕ) : Type 0 where
  pub few : n ≤ 254
  pub pairs : (i : ℕ) → i < n → ((m : ℕ) × (get_or l.starts (i + 1) 0 ≡ get_or l.starts i 0 + suc m + suc m))
  pub within : (i : ℕ) → i ≤ n → get_or l.starts i 0 ≤ 1040
  pub sources : (j : ℕ) → get_or l.sources j 0 < 512

-- What n arcs from index j on bring: each the number in its cell times its weight
unfoldable pub flow_sum : (sources arcs cells : List ℕ) → (j n : ℕ) → ℕ
flow_sum ss ws cells j zero = 0
flow_sum ss ws cells j (suc n) = flow_sum ss ws cells j n + get_or cells (get_or ss (j + n) 0) 0 * get_or ws (j + n) 0

-- What all arcs into the node at rank i bring
unfoldable pub inflow : LaidArcs → (cells : List ℕ) → (i : ℕ) → ℕ
inflow l cells i =
    flow_sum l.sources l.arcs cells (get_or l.starts i 0) (get_or l.starts (i + 1) 0 - get_or l.starts i 0)

-- The two cells of the node at rank i written
abbrev pub put : (cells : List ℕ) → (i x y : ℕ) → List ℕ
put cells i x y = set (set cells (high_cell i) x) (low_cell i) y

-- The node at rank i hands on what comes to it, by both arcs
unfoldable pub cross_node : LaidArcs → (i : ℕ) → (cells : List ℕ) → List ℕ
cross_node l i cells = put cells i (inflow l cells i) (inflow l cells i)

-- n nodes from rank i on, one after the other
unfoldable pub cross_nodes : LaidArcs → (i n : ℕ) → (cells : List ℕ) → List ℕ
cross_nodes l i zero cells = cells
cross_nodes l i (suc n) cells = cross_node l (i + n) (cross_nodes l i n cells)

-- The node at rank i, of a line taken, hands on by its hi arc alone what comes to it
unfoldable pub own_node : LaidArcs → (i : ℕ) → (cells : List ℕ) → List ℕ
own_node l i cells = put cells i (inflow l cells i) 0

unfoldable pub own_nodes : LaidArcs → (i n : ℕ) → (cells : List ℕ) → List ℕ
own_nodes l i zero cells = cells
own_nodes l i (suc n) cells = own_node l (i + n) (own_nodes l i n cells)

-- What comes to each node from one rank to another fits, where these nodes hand on by both arcs
abbrev pub CrossFits : LaidArcs → (from to : ℕ) → (cells : List ℕ) → Type 0
CrossFits l from to cells = (i : ℕ) → from + i < to → inflow l (cross_nodes l from i cells) (from + i) ≤ 2 ^ 56

-- and where they are of a line taken
abbrev pub OwnFits : LaidArcs → (from to : ℕ) → (cells : List ℕ) → Type 0
OwnFits l from to cells = (i : ℕ) → from + i < to → inflow l (own_nodes l from i cells) (from + i) ≤ 2 ^ 56

-- What leaving the line of n nodes from rank i on loses: at each node what comes to it, times its loss
unfoldable pub drop_sum : LaidArcs → (losses : List ℕ) → (i n : ℕ) → (cells : List ℕ) → ℕ
drop_sum l losses i zero cells = 0
drop_sum l losses i (suc n) cells =
    drop_sum l losses i n cells + inflow l (own_nodes l i n cells) (i + n) * get_or losses (i + n) 0

-- The line of the node at rank i is left: what its hi arc has handed on goes by its lo arc
unfoldable pub leave_node : (i : ℕ) → (cells : List ℕ) → List ℕ
leave_node i cells = put cells i 0 (get_or cells (high_cell i) 0)

unfoldable pub leave_nodes : (i n : ℕ) → (cells : List ℕ) → List ℕ
leave_nodes i zero cells = cells
leave_nodes i (suc n) cells = leave_node (i + n) (leave_nodes i n cells)

-- ---------------------------------------------------------------------------
-- The layer of an open line

-- The cells after the layer's nodes before the line
abbrev pub layer_crossed : LaidArcs → Layer → (cells : List ℕ) → List ℕ
layer_crossed l layer cells = cross_nodes l layer.first.0 (layer.own.0 - layer.first.0) cells

-- The cells after the line's own nodes, with the line taken
abbrev pub own_entered : LaidArcs → Layer → (cells : List ℕ) → List ℕ
own_entered l layer cells = own_nodes l layer.own.0 (layer.next.0 - layer.own.0) cells

-- What leaving the line loses
abbrev pub own_drop : LaidArcs → (losses : List ℕ) → Layer → (cells : List ℕ) → ℕ
own_drop l losses layer cells = drop_sum l losses layer.own.0 (layer.next.0 - layer.own.0) cells

-- The cells after the whole layer, with the line taken, and what leaving the line loses
abbrev pub layer_entered : LaidArcs → Layer → (cells : List ℕ) → List ℕ
layer_entered l layer cells = own_entered l layer (layer_crossed l layer cells)

abbrev pub layer_drop : LaidArcs → (losses : List ℕ) → Layer → (cells : List ℕ) → ℕ
layer_drop l losses layer cells = own_drop l losses layer (layer_crossed l layer cells)

-- The cells once the line is left
abbrev pub line_left : Layer → (cells : List ℕ) → List ℕ
line_left layer cells = leave_nodes layer.own.0 (layer.next.0 - layer.own.0) cells

-- The nodes before the line may be crossed
abbrev pub Crossable : LaidArcs → Layer → (cells : List ℕ) → Type 0
Crossable l layer cells =
    (layer.first.0 ≤ layer.own.0)
    × ((n : ℕ) × Sized l n × (layer.own.0 ≤ n) × CrossFits l layer.first.0 layer.own.0 cells)

-- The line's own nodes may be entered
abbrev pub OwnEnterable : LaidArcs → (losses : List ℕ) → Layer → (cells : List ℕ) → Type 0
OwnEnterable l losses layer cells =
    (layer.own.0 ≤ layer.next.0)
    × ((n : ℕ) × Sized l n × (layer.next.0 ≤ n) × OwnFits l layer.own.0 layer.next.0 cells × (own_drop l losses layer cells ≤ 2 ^ 56))

-- The layer of an open line: the ranks from the line before it to its own first record, and from there to the one after its last. All sums fit.
pub record Enterable (l : LaidArcs) (losses : List ℕ) (n from own to : ℕ) (cells : List ℕ) : Type 0 where
  pub sized : Sized l n
  pub bounds : (from ≤ own) × (own ≤ to) × (to ≤ n)
  pub crosses : CrossFits l from own cells
  pub enters : OwnFits l own to (cross_nodes l from (own - from) cells)
  pub drops : drop_sum l losses own (to - own) (cross_nodes l from (own - from) cells) ≤ 2 ^ 56

-- The whole layer may be entered
abbrev pub LayerEnterable : LaidArcs → (losses : List ℕ) → Layer → (cells : List ℕ) → Type 0
LayerEnterable l losses layer cells =
    ((n : ℕ) × Enterable l losses n layer.first.0 layer.own.0 layer.next.0 cells)

-- The line may be left
abbrev pub LineLeavable : Layer → Type 0
LineLeavable layer = (layer.own.0 ≤ layer.next.0) × (layer.next.0 ≤ 254)
