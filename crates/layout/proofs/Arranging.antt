-- What the arrays of a search hold is the layout of its table.
-- Assumes of the arrays that they are what `value_plan`, `order_records`, `lay_arcs` and `losses_by_rank` make.
use Prim.Native.Nat.{ℕ, zero, suc, ◌+◌, ◌*◌, ◌≤◌, ◌<◌}
use native.Mathlib.Omega.{arith}
use mathlib.Core.Path.{◌≡◌, refl, ap, sym, ◌∙◌}
use mathlib.Core.Bool.{Bool, true, false, cond}
use mathlib.Core.List.{List}
use lib.ListN.{length, get_or, replicate}
use lib.Dec.{eqb}
use borrow.Author.Tests.{eqb-true}
use Rattle.diagram.specs.Table.{Table, record_at}
use Rattle.diagram.specs.Plans.{open_taken}
use Rattle.diagram.specs.Validity.{Monotone}
use Rattle.decoding.specs.Decoding.{root_at}
use Rattle.arrays.proofs.Over.{over-sequence-at}
use Rattle.weighing.specs.declared.roots.Roots.{Roots}
use Rattle.weighing.specs.Value.{node_position, gap, marks_from, variable_at, mark_at}
use Rattle.weighing.proofs.HeldRoots.{RootsHeld}
use Rattle.valuing.specs.Passes.{mark_of, high_in_force_at, low_in_force_at, record_loss, losses_of, Marked}
use Rattle.valuing.specs.Valued.{node_values}
use Rattle.valuing.proofs.Passing.{mark-at-node, high_is, low-is}
use Rattle.valuing.proofs.Gaining.{loss_is}
use Rattle.derivatives.specs.Down.{root_weight}
use Rattle.derivatives.proofs.RootWeights.{held-rooted}
use Rattle.ordering.specs.Chains.{joined, in_buffer, nodes_at, arcs_into, arcs_at}
use Rattle.layers.specs.Layers.{inflow}
use Rattle.layout.specs.Weights.{into}
use Rattle.layout.specs.Flows.{high_at, low_at, Layered}
use Rattle.layout.specs.Weighed.{weights_kept, arc_cells, Laid, by_rank}
use Rattle.layers.specs.declared.arcs.LaidArcs.{LaidArcs}
use Rattle.layout.proofs.Numbering.{Numbered, numbered_all}
use Rattle.layout.proofs.Summing.{arcs-sum}
use Rattle.layout.proofs.Weighing.{weight-none, weight-high, weight-low, weight-root}
use Rattle.layout.proofs.Laying.{laid-sized, laid-inflow}
use Rattle.layout.proofs.Ordering.{order-nodes, order_distinct, order_earlier, arcs-room}

-- numbers that agree where they count
cond_same : (x c y z : ℕ) → (x ≡ c → y ≡ z) → cond (eqb x c) y 0 ≡ cond (eqb x c) z 0
cond_same x c y z f = go (eqb x c) refl
  where
    go : (b : Bool) → eqb x c ≡ b → cond b y 0 ≡ cond b z 0
    go true e = f (eqb-true x c e)
    go false e = refl

into-same : (high low a b a' b' : ℕ → ℕ) (c n : ℕ) → ((k : ℕ) → k < n → high k ≡ c → a k ≡ a' k) → ((k : ℕ) → k < n → low k ≡ c → b k ≡ b' k) → into high low a b c n ≡ into high low a' b' c n
unfolding into
into-same high low a b a' b' c zero f g = refl
into-same high low a b a' b' c (suc n) f g =
    let rest = into-same high low a b a' b' c n (λ k h. f k (omega arith)) (λ k h. g k (omega arith)) in
    let first = cond_same (high n) c (a n) (a' n) (f n (omega arith)) in
    let second = cond_same (low n) c (b n) (b' n) (g n (omega arith)) in
    omega (arith, rest, first, second)

module _ {t : Table} {s : List ℕ} {n : ℕ} {ps hs ls ws ms : List ℕ} (marked : Marked t s n ps hs ls ws ms) (monotone : Monotone t) (some : 1 ≤ n) {rs : Roots} (entering : RootsHeld t rs) {order : List ℕ} (eo : order ≡ in_buffer (joined (nodes_at ps n) (length t.variables))) where
  few : length t.records ≤ 254
  few = omega (arith, marked.size)

  same : length t.records ≡ n
  same = sym marked.size.0

  -- the order, by the table's own number of records
  order_is : order ≡ in_buffer (joined (nodes_at ps (length t.records)) (length t.variables))
  order_is = rw same eo

  -- the node at rank i
  node : (i : ℕ) → i < n → ((k : ℕ) × (k < n) × (get_or order i 0 ≡ k + 2))
  node i h = rw same at (order-nodes t marked.formed few marked.few marked.positions order_is refl i (rw same h))

  -- every node is a record's, and a byte, and none stands twice
  pub nodes-within : (i : ℕ) → i < n → (2 ≤ get_or order i 0) × (get_or order i 0 < 256)
  nodes-within i h = let k = node i h in (omega (arith, k.2), omega (arith, few, same, k.1, k.2))

  pub nodes_distinct : (i j : ℕ) → i < n → j < n → get_or order i 0 ≡ get_or order j 0 → i ≡ j
  nodes_distinct i j h l = order_distinct t marked.formed few marked.few marked.positions order_is refl i j (rw same h) (rw same l)

  -- a node at a smaller position has a smaller rank
  ranked : (i k : ℕ) → i < n → k < n → (record_at t.records k).position < node_position t (get_or order i 0) → ((j : ℕ) × (j < i) × (get_or order j 0 ≡ k + 2))
  ranked i k h l = order_earlier t marked.formed few marked.few marked.positions order_is refl i k (rw same h) (rw same l)

  -- all arcs into nodes find room
  pub room_for_arcs : (es : List ℕ) → length (joined (arcs_at hs ls es n rs.count order) n) ≤ 1040
  room_for_arcs es = rw same at (arcs-room t marked.formed few marked.few marked.positions order_is refl hs ls es rs.count entering.few)

  -- the cells of the arcs
  numbered : Numbered n order (arc_cells order n)
  numbered = numbered_all marked.size.1 nodes-within nodes_distinct

  -- the weights of record k's arcs during the search
  high-at : (k : ℕ) → k < n → high_in_force_at ps ms ws k ≡ high_at t s k
  unfolding high_at mark_of variable_at mark_at marks_from
  high-at k h = rw (mark-at-node marked k h, marked.high_arcs k h) refl

  low-at : (k : ℕ) → k < n → low_in_force_at ps ms ws k ≡ low_at t s k
  unfolding low_at mark_of variable_at mark_at marks_from
  low-at k h = rw (mark-at-node marked k h, marked.low_arcs k h) refl

  -- the weights of the arcs by their numbers: the records', the roots', and that of the number that no arc has
  abbrev weights : List ℕ
  weights = weights_kept ps ms ws n rs

  high_weighs : (k : ℕ) → k < n → get_or weights (k + 2) 0 ≡ high_at t s k
  high_weighs k h = weight-high (high_in_force_at ps ms ws) (low_in_force_at ps ms ws) _ marked.size.1 entering.few k h ∙ high-at k h

  low_weighs : (k : ℕ) → k < n → get_or weights (k + 258) 0 ≡ low_at t s k
  low_weighs k h = weight-low (high_in_force_at ps ms ws) (low_in_force_at ps ms ws) _ marked.size.1 entering.few k h ∙ low-at k h

  root_weighs : (i : ℕ) → i < rs.count → get_or weights (i + 514) 0 ≡ get_or rs.weights i 0
  root_weighs = weight-root (high_in_force_at ps ms ws) (low_in_force_at ps ms ws) _ marked.size.1 entering.few

  none_weighs : get_or weights 0 0 ≡ 0
  none_weighs = weight-none (high_in_force_at ps ms ws) (low_in_force_at ps ms ws) _ marked.size.1 entering.few

  module _ {vs : List ℕ} (values : vs ≡ node_values t (open_taken s) n (replicate 256 0)) where
    -- what leaving its line loses at the node at a rank
    loses : (i k : ℕ) → i < n → get_or order i 0 ≡ k + 2 → get_or (by_rank order (losses_of ls ws vs n) n) i 0 ≡ record_loss t (open_taken s) k
    loses i k h e =
        let r = node i h in
        over-sequence-at (λ i. get_or (losses_of ls ws vs n) (get_or order i 0) 0) (replicate 256 0) n i h
        ∙ rw e (loss_is marked values k (omega (arith, e, r.1, r.2)))

    module _ (es : List ℕ) (rooted : (k : ℕ) → k < rs.count → get_or es k 0 ≡ (root_at t.roots k).node) {r : LaidArcs} (laid : Laid (arcs_at hs ls es n rs.count order) n order weights r) where
      module _ (cells : List ℕ) (one : get_or cells 1 0 ≡ 1) where
        -- what a root's arc brings, from the cell that has 1
        root-brings : (k : ℕ) → k < rs.count → get_or cells (get_or (arc_cells order n) (k + 514) 0) 0 * get_or weights (k + 514) 0 ≡ (root_at t.roots k).reward * gap t 0 (node_position t (root_at t.roots k).node)
        root-brings k h = rw (root_weighs k h, numbered.roots k (omega (arith, entering.few)), one, entering.weight k h) (omega arith)

        -- what comes to a node, by the numbers of the records' arcs
        inflow-numbers : (i : ℕ) → i < n → inflow r cells i ≡ root_weight t (get_or order i 0) (length t.roots) + into (λ k. (record_at t.records k).hi) (λ k. (record_at t.records k).lo) (λ k. get_or cells (get_or (arc_cells order n) (k + 2) 0) 0 * high_at t s k) (λ k. get_or cells (get_or (arc_cells order n) (k + 258) 0) 0 * low_at t s k) (get_or order i 0) n
        inflow-numbers i h =
            rw (← entering.all)
            (laid-inflow (λ i. arcs_into hs ls es n rs.count (get_or order i 0)) marked.size.1 (room_for_arcs es) numbered laid cells none_weighs i h ∙ arcs-sum hs ls es _ _ _ _ _ t (get_or order i 0) n rs.count (λ k l. (high_is marked k l, low-is marked k l, ap (λ (z : ℕ). get_or cells (get_or (arc_cells order n) (k + 2) 0) 0 * z) (high_weighs k l), ap (λ (z : ℕ). get_or cells (get_or (arc_cells order n) (k + 258) 0) 0 * z) (low_weighs k l))) (λ k l. (rooted k l, root-brings k l)))

        -- and by what the cells of the nodes before it hold
        inflow-cells : (high low : ℕ → ℕ) (i : ℕ) → i < n → ((j k : ℕ) → j < i → get_or order j 0 ≡ k + 2 → (get_or cells (j + 2) 0 * high_at t s k ≡ high k) × (get_or cells (j + 258) 0 * low_at t s k ≡ low k)) → inflow r cells i ≡ root_weight t (get_or order i 0) (length t.roots) + into (λ k. (record_at t.records k).hi) (λ k. (record_at t.records k).lo) high low (get_or order i 0) n
        unfolding node_position
        inflow-cells high low i h right =
            let terms =
            into-same (λ k. (record_at t.records k).hi) (λ k. (record_at t.records k).lo) (λ k. get_or cells (get_or (arc_cells order n) (k + 2) 0) 0 * high_at t s k) (λ k. get_or cells (get_or (arc_cells order n) (k + 258) 0) 0 * low_at t s k) high low (get_or order i 0) n
            (λ k b e.
            let r = ranked i k h b (rw e at (marked.formed.hi_later k)) in
            let cell : get_or (arc_cells order n) (k + 2) 0 ≡ r.0 + 2 = rw (← r.2) (numbered.highs r.0 (omega (arith, r.1))) in
            rw cell (right r.0 k r.1 r.2).0)
            (λ k b e.
            let r = ranked i k h b (rw e at (marked.formed.lo_later k)) in
            let number : k + 258 ≡ get_or order r.0 0 + 256 = omega (arith, r.2) in
            let cell : get_or (arc_cells order n) (k + 258) 0 ≡ r.0 + 258 = rw number (numbered.lows r.0 (omega (arith, r.1))) in
            rw cell (right r.0 k r.1 r.2).1) in
            inflow-numbers i h ∙ rw terms refl

      -- the arrays are the layout
      pub layered : {ns losses : List ℕ} → ns ≡ losses_of ls ws vs n → losses ≡ by_rank order ns n → Layered t s order r losses
      layered en el =
          record {
            formed = marked.formed;
            shares = marked.shares;
            monotone = monotone;
            bounded = marked.bounded;
            scaled = marked.scaled;
            rooted = held-rooted entering;
            some = rw same some;
            plan = marked.plan;
            legal = marked.legal;
            sized = rw same (laid-sized (λ i. arcs_into hs ls es n rs.count (get_or order i 0)) marked.size.1 (room_for_arcs es) numbered laid);
            nodes = order-nodes t marked.formed few marked.few marked.positions order_is refl;
            inflows = λ cells one high low i h right. rw same (inflow-cells cells one high low i (rw same at h) right);
            lost = λ i k h e c o. rw (el, en) (loses i k (rw same at h) e);
          }
