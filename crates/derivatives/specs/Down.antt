-- The pass down the records: every node hands its weight on along its arcs in force, so that a node's weight is the sum over all paths that lead to it.
-- Source document 000 has the path weight as (6.9) and (6.10); here it is a whole number.
use Rattle.std.specs.Prelude.{ℕ, zero, suc, ◌+◌, ◌*◌, ◌≤◌, ◌<◌, ◌^◌, cond, List, get_or, set, eqb}
use Rattle.diagram.specs.Table.{Table}
use Rattle.decoding.specs.Decoding.{root_at}
use Rattle.weighing.specs.declared.roots.Roots.{Roots}
use Rattle.weighing.specs.Weights.{root_brings}
use Rattle.valuing.specs.Passes.{Arcs}

-- The sum of weight times value over the nodes below n
unfoldable pub dot : (weights : List ℕ) → (value : ℕ → ℕ) → (n : ℕ) → ℕ
dot ws v zero = 0
dot ws v (suc i) = dot ws v i + get_or ws i 0 * v i

-- The sum, over the first n records, of the node's weight times a number of the record
unfoldable pub record_sum : (weights : List ℕ) → (ℕ → ℕ) → (n : ℕ) → ℕ
record_sum ws r zero = 0
record_sum ws r (suc k) = record_sum ws r k + get_or ws (k + 2) 0 * r k

-- x more at node i
unfoldable pub added : List ℕ → (i x : ℕ) → List ℕ
added ws i x = set ws i (get_or ws i 0 + x)

-- The weights after the first i roots of a table have brought theirs: to a root's node comes its reward times b of each variable before it
unfoldable pub entered : Table → (i : ℕ) → (weights : List ℕ) → List ℕ
entered t zero ws = ws
entered t (suc i) ws =
    added
    (entered t i ws)
    (root_at t.roots i).node
    (root_brings t i)

-- The same from the arrays that hold the roots
unfoldable pub entered_by : Roots → (i : ℕ) → (weights : List ℕ) → List ℕ
entered_by rs zero ws = ws
entered_by rs (suc i) ws = added (entered_by rs i ws) (get_or rs.nodes i 0) (get_or rs.weights i 0)

-- The sum that root i makes at its node fits
abbrev pub RootFits : Roots → (weights : List ℕ) → (i : ℕ) → Type 0
RootFits rs ws i =
    (get_or rs.nodes i 0 < 256) × (get_or (entered_by rs (suc i) ws) (get_or rs.nodes i 0) 0 ≤ 2 ^ 56)

-- What the first i roots bring to node m
unfoldable pub root_weight : Table → (m i : ℕ) → ℕ
root_weight t m zero = 0
root_weight t m (suc i) =
    root_weight t m i
    + cond (eqb (root_at t.roots i).node m) (root_brings t i) 0

-- Node m hands its weight on to its two children
unfoldable pub hand_on : Arcs → (m : ℕ) → (weights : List ℕ) → List ℕ
hand_on a m ws =
    added
    (added ws (get_or a.high m 0) (get_or ws m 0 * get_or a.high_weights m 0))
    (get_or a.low m 0)
    (get_or ws m 0 * get_or a.low_weights m 0)

-- Node m's children have smaller numbers, and what they are handed fits
abbrev pub HandsOn : Arcs → (m : ℕ) → (weights : List ℕ) → Type 0
HandsOn a m ws =
    (get_or a.high m 0 < m) × (get_or a.low m 0 < m) × ((i : ℕ) → i < m → get_or (hand_on a m ws) i 0 ≤ 2 ^ 56)

-- The weights after the nodes of the first n records have handed theirs on, the last one first. The weights to begin with may be any.
unfoldable pub pass_down : Arcs → (records : ℕ) → (weights : List ℕ) → List ℕ
pass_down a zero ws = ws
pass_down a (suc k) ws = pass_down a k (hand_on a (k + 2) ws)

-- What keeps a pass down within 2^56: a number for each node, at least 1 and no less than what its arcs lead to, and weights that times these numbers come
-- to at most 2^56. Children have smaller numbers.
pub record Budget (a : Arcs) (n : ℕ) (scales : ℕ → ℕ) (ws : List ℕ) : Type 0 where
  pub positive : (i : ℕ) → 1 ≤ scales i
  pub steps : (k : ℕ) → k < n → get_or a.high_weights (k + 2) 0 * scales (get_or a.high (k + 2) 0) + get_or a.low_weights (k + 2) 0 * scales (get_or a.low (k + 2) 0) ≤ scales (k + 2)
  pub total : dot ws scales (n + 2) ≤ 2 ^ 56
  pub high_less : (k : ℕ) → k < n → get_or a.high (k + 2) 0 < k + 2
  pub low_less : (k : ℕ) → k < n → get_or a.low (k + 2) 0 < k + 2
