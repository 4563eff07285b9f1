-- What is computed once for a table. Arrays by position have one entry for each position up to 63; the weights of arcs stand by the arcs' numbers.
use Rattle.std.specs.Prelude.{ℕ, zero, suc, ◌+◌, ◌*◌, ◌/◌, ◌≤◌, ◌<◌, ◌^◌, List, length, get_or, set, drop}
use Rattle.diagram.specs.Table.{Variable, Table, chance, sequence, scale_of}
use Rattle.decoding.specs.Decoding.{pad_to, root_at, root_nodes}
use Rattle.ordering.specs.Numbers.{high_arc_number, low_arc_number}
use Rattle.weighing.specs.declared.roots.Roots.{Roots}
use Rattle.weighing.specs.Value.{node_position, gap, high_share, low_share, high_arc, low_arc}

-- ---------------------------------------------------------------------------
-- The weights of arcs

-- The product of b from each position on
unfoldable pub products : List Variable → List ℕ
products vs = sequence (λ x. scale_of (drop x vs)) 0 64

-- A share of each position's variable; past the last variable that of a chance of 0 of 1, which is 0 for the hi arc and 1 for the lo arc
unfoldable pub shares_by : (Variable → ℕ) → List Variable → List ℕ
shares_by share vs = sequence (λ x. share (get_or vs x (chance 0 1))) 0 64

-- The shares of the hi arcs at each position
abbrev pub high_shares : List Variable → List ℕ
high_shares vs = shares_by (λ v. high_share v 1) vs

-- The shares of the lo arcs at each position
abbrev pub low_shares : List Variable → List ℕ
low_shares vs = shares_by (λ v. low_share v 2) vs

-- The weight of node n's arc to the child that `children` has: its share, times the quotient of the products after the node and at the child
unfoldable pub arc_weight : (products shares positions children : List ℕ) → (n : ℕ) → ℕ
arc_weight qs ss ps cs n =
    get_or ss (get_or ps n 0) 0 * (get_or qs (get_or ps n 0 + 1) 0 / get_or qs (get_or ps (get_or cs n 0) 0) 0)

-- The arrays have what that weight is computed from, and it stays within 2^56
pub record Weighable (qs ss ps cs : List ℕ) (n : ℕ) : Type 0 where
  pub from : get_or ps n 0 < 63
  pub to : get_or ps (get_or cs n 0) 0 < 64
  pub positive : 0 < get_or qs (get_or ps (get_or cs n 0) 0) 0
  pub fits : arc_weight qs ss ps cs n ≤ 2 ^ 56

-- An array by arc number in which the arcs of the first n records have these weights, and all else is as it was
unfoldable pub arcs_over : (high low : ℕ → ℕ) → (records : ℕ) → (old : List ℕ) → List ℕ
arcs_over high low zero old = old
arcs_over high low (suc k) old = set (set (arcs_over high low k old) (high_arc_number k) (high k)) (low_arc_number k) (low k)

-- The weights of the arcs of a table's first n records
abbrev pub table_arcs : Table → (records : ℕ) → (old : List ℕ) → List ℕ
table_arcs t n old = arcs_over (high_arc t) (low_arc t) n old

-- ---------------------------------------------------------------------------
-- Roots

-- What comes to root i, from the arrays: its reward times the quotient of the products at the first position and at its node's
unfoldable pub root_weight_by : (nodes rewards positions products : List ℕ) → (i : ℕ) → ℕ
root_weight_by ns rs ps qs i = get_or rs i 0 * (get_or qs 0 0 / get_or qs (get_or ps (get_or ns i 0) 0) 0)

-- The arrays have what that weight is computed from, and it fits
pub record RootWeighable (ns rs ps qs : List ℕ) (i : ℕ) : Type 0 where
  pub at : get_or ps (get_or ns i 0) 0 < 64
  pub positive : 0 < get_or qs (get_or ps (get_or ns i 0) 0) 0
  pub fits : root_weight_by ns rs ps qs i < 2 ^ 64

-- What comes to the first n roots, from the arrays
abbrev pub root_weights_by : (nodes rewards positions products : List ℕ) → (n : ℕ) → List ℕ
root_weights_by ns rs ps qs n = pad_to 16 (sequence (root_weight_by ns rs ps qs) 0 n)

-- What comes to root i: its reward times b of each variable before its node
abbrev pub root_brings : Table → (i : ℕ) → ℕ
root_brings t i = (root_at t.roots i).reward * gap t 0 (node_position t (root_at t.roots i).node)

-- The roots of a table, with the node of each and what comes to it
unfoldable pub roots_of : Table → Roots
roots_of t =
    record {
      count = length t.roots;
      nodes = pad_to 16 (root_nodes t.roots);
      weights = pad_to 16 (sequence (root_brings t) 0 (length t.roots));
    }
