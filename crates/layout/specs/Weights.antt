-- The path weight of a node: the sum, over all paths from a root to the node, of what comes to the root times the product of the arcs' weights along the
-- path. Source document 000 has it as (6.9) and (6.10); here it is a whole number.
use Rattle.std.specs.Prelude.{ℕ, zero, suc, ◌+◌, ◌*◌, cond, List, length, get_or, replicate, eqb}
use Rattle.diagram.specs.Table.{Table, record_at}
use Rattle.weighing.specs.Value.{high_weight, low_weight}
use Rattle.arrays.specs.Arrays.{by_node}
use Rattle.valuing.specs.Passes.{Arcs}
use Rattle.derivatives.specs.Down.{entered, pass_down}

-- The children of a table's records and the weights of their arcs under a full plan
unfoldable pub arcs_under : Table → (plan : List ℕ) → Arcs
arcs_under t u =
    record {
      high = by_node (λ k. (record_at t.records k).hi) (length t.records);
      low = by_node (λ k. (record_at t.records k).lo) (length t.records);
      high_weights = by_node (high_weight t u) (length t.records);
      low_weights = by_node (low_weight t u) (length t.records);
    }

-- The path weight of node m under a full plan
unfoldable pub path_weight : Table → (plan : List ℕ) → (m : ℕ) → ℕ
path_weight t u m =
    get_or
    (pass_down (arcs_under t u) (length t.records) (entered t (length t.roots) (replicate 256 0)))
    m
    0

-- What the arcs of the first n records bring to node c: `high` and `low` are the records' children, a and b what their arcs bring
unfoldable pub into : (high low a b : ℕ → ℕ) → (c n : ℕ) → ℕ
into high low a b c zero = 0
into high low a b c (suc k) = into high low a b c k + (cond (eqb (high k) c) (a k) 0 + cond (eqb (low k) c) (b k) 0)

-- The sum over the first n records of a record's weight times a number of the record
unfoldable pub weight_sum : (weight r : ℕ → ℕ) → (n : ℕ) → ℕ
weight_sum w r zero = 0
weight_sum w r (suc k) = weight_sum w r k + w (k + 2) * r k
