-- The loops of a visit's walk, one turn more: the sums so far, which fit because the whole sums do, and the cells so far.
-- Assumes nothing.
use Prim.Native.Nat.{ℕ, zero, suc, ◌+◌, ◌-◌, ◌*◌, ◌≤◌, ◌<◌, ◌^◌}
use native.Mathlib.Nat.{le_refl, le_trans, eq-or-lt_of_le, sub_self}
use native.Mathlib.Omega.{arith}
use mathlib.Core.Path.{◌≡◌, refl, ◌∙◌}
use mathlib.Core.Logic.{⊎_elim}
use mathlib.Core.List.{List}
use lib.ListN.{length, get_or, length-set}
use Rattle.layers.specs.declared.arcs.LaidArcs.{LaidArcs}
use Rattle.layers.specs.Layers.{Sized, flow_sum, inflow, put, cross_node, cross_nodes, own_node, own_nodes, drop_sum, leave_node, leave_nodes}

-- ---------------------------------------------------------------------------
-- What arcs bring

module _ (ss ws cells : List ℕ) (from : ℕ) where
  -- arcs one after the other
  pub flow_split : (n m : ℕ) → flow_sum ss ws cells from (n + m) ≡ flow_sum ss ws cells from n + flow_sum ss ws cells (from + n) m
  unfolding flow_sum
  flow_split n zero =
      let none : n + 0 ≡ n = omega arith in
      rw none (omega arith)
  flow_split n (suc m) =
      let one : n + suc m ≡ suc (n + m) = omega arith in
      let here : from + (n + m) ≡ from + n + m = omega arith in
      rw (one, here) (omega (arith, flow_split n m))

  pub flow_two : flow_sum ss ws cells from 2 ≡ get_or cells (get_or ss from 0) 0 * get_or ws from 0 + get_or cells (get_or ss (from + 1) 0) 0 * get_or ws (from + 1) 0
  unfolding flow_sum
  flow_two =
      let here : from + 0 ≡ from = omega arith in
      rw here (omega arith)

  -- the first pair
  pub flow_first : {w : ℕ} → w ≡ flow_sum ss ws cells from 2 → w ≡ flow_sum ss ws cells from (from + 2 - from)
  flow_first e =
      let two : from + 2 - from ≡ 2 = omega arith in
      rw two e

  -- one pair more
  pub flow_next : {j w x : ℕ} → from ≤ j → w ≡ flow_sum ss ws cells from (j - from) → x ≡ flow_sum ss ws cells j 2 → w + x ≡ flow_sum ss ws cells from (j + 2 - from)
  flow_next {j} h e ex =
      let two : j + 2 - from ≡ j - from + 2 = omega arith in
      let here : from + (j - from) ≡ j = omega arith in
      rw (two, flow_split (j - from) 2, here, ← e, ← ex) refl

  -- the sum so far, with the next pair, is at most the whole sum
  pub flow_fits : {j to : ℕ} → from ≤ j → j + 2 ≤ to → flow_sum ss ws cells from (to - from) ≤ 2 ^ 56 → flow_sum ss ws cells from (j - from) + flow_sum ss ws cells j 2 ≤ 2 ^ 56
  flow_fits {j} {to} h left fits =
      let rest : to - from ≡ j + 2 - from + (to - (j + 2)) = omega arith in
      let all = rw rest at fits in
      rw (flow_next h refl refl) (omega (arith, flow_split (j + 2 - from) (to - (j + 2)), all))

  pub flow_all : {j to w : ℕ} → j ≤ to → to ≤ j → w ≡ flow_sum ss ws cells from (j - from) → w ≡ flow_sum ss ws cells from (to - from)
  flow_all {j} {to} h k e =
      let end : j ≡ to = omega arith in
      e ∙ rw end refl

-- The arcs into a node are those between two starts
module _ (l : LaidArcs) (cells : List ℕ) {i r from to : ℕ} (rank : r ≡ i) (begins : from ≡ get_or l.starts r 0) (ends : to ≡ get_or l.starts (r + 1) 0) where
  -- they are pairs within the list, and what they bring fits
  pub node_ready : ((n : ℕ) × Sized l n × (i < n)) → inflow l cells i ≤ 2 ^ 56 → ((m : ℕ) × (to ≡ from + suc m + suc m)) × (to ≤ 1040) × ((j : ℕ) → get_or l.sources j 0 < 512) × (flow_sum l.sources l.arcs cells from (to - from) ≤ 2 ^ 56)
  unfolding inflow
  node_ready ready fits =
      let sized = ready.1 in
      rw (begins, ends, rank) (sized.pairs i ready.2, sized.within (i + 1) (omega (arith, ready.2)), sized.sources, fits)

  -- what they bring is what comes to the node
  pub node_flow : {w : ℕ} → w ≡ flow_sum l.sources l.arcs cells from (to - from) → w ≡ inflow l cells i
  unfolding inflow
  node_flow e = rw (begins, ends, rank) at e

-- ---------------------------------------------------------------------------
-- Nodes that hand on by both arcs

module _ (l : LaidArcs) (from : ℕ) (cells₀ : List ℕ) where
  pub cross_none : cells₀ ≡ cross_nodes l from (from - from) cells₀
  unfolding cross_nodes
  cross_none = rw (sub_self from) refl

  pub cross_next : {i w : ℕ} {cells cells' : List ℕ} → from ≤ i → cells ≡ cross_nodes l from (i - from) cells₀ → w ≡ inflow l cells i → {r : ℕ} → r ≡ i → cells' ≡ put cells r w w → cells' ≡ cross_nodes l from (i + 1 - from) cells₀
  unfolding cross_nodes cross_node
  cross_next {i} h e ew er e' =
      let one : i + 1 - from ≡ suc (i - from) = omega arith in
      let here : from + (i - from) ≡ i = omega arith in
      rw (one, here, ← e, ← ew, ← er) e'

-- ---------------------------------------------------------------------------
-- Nodes that hand on by their hi arcs, and what leaving them loses

module _ (l : LaidArcs) (from : ℕ) (cells₀ : List ℕ) where
  pub own-none : cells₀ ≡ own_nodes l from (from - from) cells₀
  unfolding own_nodes
  own-none = rw (sub_self from) refl

  pub own-next : {i w : ℕ} {cells cells' : List ℕ} → from ≤ i → cells ≡ own_nodes l from (i - from) cells₀ → w ≡ inflow l cells i → {r : ℕ} → r ≡ i → cells' ≡ put cells r w 0 → cells' ≡ own_nodes l from (i + 1 - from) cells₀
  unfolding own_nodes own_node
  own-next {i} h e ew er e' =
      let one : i + 1 - from ≡ suc (i - from) = omega arith in
      let here : from + (i - from) ≡ i = omega arith in
      rw (one, here, ← e, ← ew, ← er) e'

  module _ (losses : List ℕ) where
    pub drop-none : 0 ≡ drop_sum l losses from (from - from) cells₀
    unfolding drop_sum
    drop-none = rw (sub_self from) refl

    pub drop-next : {i d w : ℕ} {cells : List ℕ} → from ≤ i → cells ≡ own_nodes l from (i - from) cells₀ → w ≡ inflow l cells i → d ≡ drop_sum l losses from (i - from) cells₀ → d + w * get_or losses i 0 ≡ drop_sum l losses from (i + 1 - from) cells₀
    unfolding drop_sum
    drop-next {i} h e ew ed =
        let one : i + 1 - from ≡ suc (i - from) = omega arith in
        let here : from + (i - from) ≡ i = omega arith in
        rw (one, here, ← e, ← ew, ← ed) refl

    drop-rises : (n m : ℕ) → n ≤ m → drop_sum l losses from n cells₀ ≤ drop_sum l losses from m cells₀
    unfolding drop_sum
    drop-rises n zero h =
        let e : n ≡ 0 = omega arith in
        rw e (le_refl _)
    drop-rises n (suc m) h =
        ⊎_elim
        (λ e. rw e (le_refl _))
        (λ less. omega (arith, drop-rises n m (omega arith)))
        (eq-or-lt_of_le {n = n} {m = suc m} h)

    pub drop-fits : {i to d w : ℕ} {cells : List ℕ} → from ≤ i → i < to → drop_sum l losses from (to - from) cells₀ ≤ 2 ^ 56 → cells ≡ own_nodes l from (i - from) cells₀ → w ≡ inflow l cells i → d ≡ drop_sum l losses from (i - from) cells₀ → d + w * get_or losses i 0 ≤ 2 ^ 56
    drop-fits {i} {to} h less fits e ew ed =
        rw (drop-next h e ew ed) (le_trans (drop-rises (i + 1 - from) (to - from) (omega arith)) fits)

-- ---------------------------------------------------------------------------
-- Nodes of a line that is left

module _ (from : ℕ) (cells₀ : List ℕ) where
  pub leave_none : cells₀ ≡ leave_nodes from (from - from) cells₀
  unfolding leave_nodes
  leave_none = rw (sub_self from) refl

  pub leave_next : {i w : ℕ} {cells cells' : List ℕ} → from ≤ i → cells ≡ leave_nodes from (i - from) cells₀ → w ≡ get_or cells (i + 2) 0 → {r : ℕ} → r ≡ i → cells' ≡ put cells r 0 w → cells' ≡ leave_nodes from (i + 1 - from) cells₀
  unfolding leave_nodes leave_node
  leave_next {i} h e ew er e' =
      let one : i + 1 - from ≡ suc (i - from) = omega arith in
      let here : from + (i - from) ≡ i = omega arith in
      rw (one, here, ← e, ← ew, ← er) e'

-- ---------------------------------------------------------------------------
-- Lengths

pub put-length : (cells : List ℕ) (i x y : ℕ) → length (put cells i x y) ≡ length cells
put-length cells i x y = simp length-set

pub crossed_length : (l : LaidArcs) (i n : ℕ) (cells : List ℕ) → length (cross_nodes l i n cells) ≡ length cells
unfolding cross_nodes cross_node
crossed_length l i zero cells = refl
crossed_length l i (suc n) cells = simp length-set (crossed_length l i n cells)
