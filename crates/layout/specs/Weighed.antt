-- What the arrays of weights, cells and losses hold, and the arcs laid out.
use Rattle.std.specs.Prelude.{ℕ, zero, suc, ◌≤◌, ◌<◌, ◌≡◌, List, get_or, set, replicate}
use Rattle.std.proofs.lemmas.List.Edits.{sets}
use Rattle.diagram.specs.Table.{sequence}
use Rattle.arrays.specs.Arrays.{over}
use Rattle.weighing.specs.declared.roots.Roots.{Roots}
use Rattle.valuing.specs.Passes.{arcs_in_force}
use Rattle.layers.specs.Cells.{high_cell, low_cell, root_cell}
use Rattle.decoding.specs.declared.table.Decoded.{Decoded}
use Rattle.ordering.specs.Numbers.{low_arc_of, root_arcs}
use Rattle.ordering.specs.Chains.{Joins, arcs_at}
use Rattle.ordering.specs.declared.chains.Joined.{Joined}
use Rattle.layers.specs.declared.arcs.LaidArcs.{LaidArcs}

-- The arcs into the node at rank i of a decoded table
abbrev pub arcs_at_rank : Decoded → Roots → (order : List ℕ) → (i : ℕ) → List ℕ
arcs_at_rank d rs order = arcs_at d.high d.low d.nodes d.records rs.count order

-- What comes to the roots is written as the weights of their arcs
abbrev pub brought_by : Roots → (weights : List ℕ) → List ℕ
brought_by rs ws = sets ws root_arcs (sequence (λ i. get_or rs.weights i 0) 0 rs.count)

-- The first n nodes of an order are those of records
abbrev pub NodesWithin : (n : ℕ) → (order : List ℕ) → Type 0
NodesWithin n order = (i : ℕ) → i < n → (2 ≤ get_or order i 0) × (get_or order i 0 < 256)

-- and none of them stands twice
abbrev pub NodesOnce : (n : ℕ) → (order : List ℕ) → Type 0
NodesOnce n order = (i j : ℕ) → i < n → j < n → get_or order i 0 ≡ get_or order j 0 → i ≡ j

-- The cells of node m at rank i are written at the numbers of its arcs
abbrev pub node_cells : (cells : List ℕ) → (m i : ℕ) → List ℕ
node_cells cells m i = set (set cells m (high_cell i)) (low_arc_of m) (low_cell i)

-- By number the cells that the arcs of the first n nodes of an order start from; every other number has the cell of the roots' arcs
unfoldable pub arc_cells : (order : List ℕ) → (n : ℕ) → List ℕ
arc_cells order zero = replicate 544 root_cell
arc_cells order (suc i) = node_cells (arc_cells order i) (get_or order i 0) i

-- For each of `count` arcs of a list what stands at its number, with zeros after
abbrev pub picked : (cells list : List ℕ) → (count : ℕ) → List ℕ
picked cells list count = over (sequence (λ j. get_or cells (get_or list j 0) 0) 0 count) (replicate 1040 0)

-- For each arc into n nodes, by index in their list, the cell that it starts from and its weight; `cells` and `weights` have both by the arcs' numbers
pub record Picked (n : ℕ) (arcs : Joined) (cells weights : List ℕ) (r : LaidArcs) : Type 0 where
  pub starts : r.starts ≡ arcs.starts
  pub sources : r.sources ≡ picked cells arcs.list (get_or arcs.starts n 0)
  pub weighed : r.arcs ≡ picked weights arcs.list (get_or arcs.starts n 0)

-- The weights of the arcs during a search, by the arcs' numbers: those of n records that are in force under the marks, and the roots'; every other is 0
abbrev pub weights_kept : (positions marks arcs : List ℕ) → (n : ℕ) → Roots → List ℕ
weights_kept ps ms ws n rs = brought_by rs (arcs_in_force ps ms ws n (replicate 544 0))

-- The arcs into n nodes in order, laid out: the lists of arcs one after the other, and for each arc its cell and its weight
pub record Laid (lists : ℕ → List ℕ) (n : ℕ) (order weights : List ℕ) (r : LaidArcs) : Type 0 where
  pub listed : Joined
  pub joins : Joins lists n listed
  pub picked : Picked n listed (arc_cells order n) weights r

-- The arcs of a decoded table under a plan's marks
abbrev pub LaidTable : Decoded → Roots → (arcs marks order : List ℕ) → LaidArcs → Type 0
LaidTable d rs ws ms order r =
    Laid (arcs_at_rank d rs order) d.records order (weights_kept d.positions ms ws d.records rs) r

-- The losses of the first n nodes of an order, by rank, from those by node; zeros after
abbrev pub by_rank : (order losses : List ℕ) → (n : ℕ) → List ℕ
by_rank order ns n = over (sequence (λ i. get_or ns (get_or order i 0) 0) 0 n) (replicate 256 0)
